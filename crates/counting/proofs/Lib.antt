-- `Below` has the laws of tests, sums and searches over the numbers below a bound.
pub mod Below
