-- Laws: `Pieces` of the bytes of a header or row, and of pieces of them; `Rows` of whole rows taken in one after the other; `Fills` of
-- fills; `Steps` of one byte on the fill and the slot of the bytes before it; `Taken` of pieces and chunks as the code takes them in, and
-- of the conditions as it asks them; `Written` of chunks that make no row whole; `Sizes` of what chunks leave of a slot. `SoFar` has
-- the theorems on chunks over the bytes so far, `Kept` those on the conditions.
pub mod Pieces
pub mod Rows
pub mod Fills
pub mod Steps
pub mod Taken
pub mod Written
pub mod Sizes
pub mod SoFar
pub mod Kept
