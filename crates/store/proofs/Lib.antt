-- Laws that the proofs of the functions cite, and that callers do: `Numbers` of numbers built case by case, `Conditions` of what a valid
-- state keeps, `Cases` of what a call's own cases have tested.
pub mod Numbers
pub mod Conditions
pub mod Cases
