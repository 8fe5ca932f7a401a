-- What a state keeps of its store: the value, the conditions whose breach earns 13, and the refusals of the calls, case by case. `Facts`
-- only names parts of internal contracts.
pub mod Store
pub mod Conditions
pub mod Refusals
pub mod Facts
