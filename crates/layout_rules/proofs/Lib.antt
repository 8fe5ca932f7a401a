-- `Boxes` has the laws of the list, `Longest` the length of a good one, `Ranges` what iterators answer over a range.
pub mod Boxes
pub mod Longest
pub mod Ranges
