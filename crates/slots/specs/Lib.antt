-- The slots of the lent memory, and what the calls on the store do to one of them. `Facts` only names parts of internal contracts.
pub mod Slots
pub mod Facts
