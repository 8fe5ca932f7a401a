-- Laws: `Calls` of the calls as the code makes them; `Sizes` of what they leave of a slot. `SoFar` has the theorems on the calls over the
-- bytes so far, `Feeding` those on chunks, `Kept` those on the conditions.
pub mod Calls
pub mod Sizes
pub mod SoFar
pub mod Feeding
pub mod Kept
