-- Laws that the proofs of the functions cite: `Tests` of what a call has tested, `Replies` of what each call replies by its number.
pub mod Tests
pub mod Replies
-- Demand 3 over every list of calls. `Effects` has what a call can do, and that each call is one of its effects, `Filled` what the calls
-- of a fill leave; `Views` what the sums depend on in a store, `Lines` what polls put out, `Moves` that each effect is one move of crate balance, `Opening` what a list of calls
-- begins with. `Demand3` has the theorem over a literal list of calls, and `Tied` the same over the contracts as they stand in the source.
pub mod Effects
pub mod Filled
pub mod Views
pub mod Lines
pub mod Moves
pub mod Opening
pub mod Demand3
pub mod Tied
