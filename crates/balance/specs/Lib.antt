-- What lines push a dot, summed over all that were handed out, and what a dot's sum is at rest.
pub mod Sums
