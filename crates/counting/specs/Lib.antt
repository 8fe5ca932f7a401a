-- Sums, counts and searches over the numbers below a bound.
pub mod Below
