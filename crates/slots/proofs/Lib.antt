-- Laws that the proofs of the functions cite: `Lent` of slots that are lent as parts of the memory, `Placed` of what an upload puts into
-- a slot.
pub mod Lent
pub mod Placed
