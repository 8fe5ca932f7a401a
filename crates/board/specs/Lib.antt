-- The store: its state, what each call on it does, and the sums of demand 3 over every list of calls. `Facts` only names parts of
-- internal contracts.
pub mod State
pub mod Calls
pub mod History
pub mod Chains
pub mod Balance
pub mod Facts
