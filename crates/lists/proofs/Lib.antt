-- `Lists` and `Rules` have the laws of the definitions in specs/, `Parts` those of parts of lists, `Elements` those of the k-th element,
-- `Cases` those of numbers below a bound and of tables; `Calls` has the values of a call that keeps its contract.
pub mod Lists
pub mod Parts
pub mod Elements
pub mod Rules
pub mod Ranges
pub mod Cases
pub mod Calls
