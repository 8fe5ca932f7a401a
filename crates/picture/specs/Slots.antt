-- Document 01, "Store and bitmaps": lent memory holds slots of P bytes each, P = h * b.
-- `picture_of` is the one reading of a slot's bytes as a picture, and `raw_of` the one way back. Today a slot keeps its picture
-- as it is, so both are the identity; only these two, their laws and the functions that touch stored bits know that.
-- Assumes nothing.
use Rattle.std.specs.Prelude.{ℕ, ◌*◌, List, take, drop}
use Rattle.lists.specs.Lists.{overlay_at}
use Rattle.picture.specs.Pictures.{overdrawn}

-- the picture that a slot's bytes hold, and the bytes that hold a picture
unfoldable pub picture_of : (b h : ℕ) (raw : List ℕ) → List ℕ
picture_of b h raw = raw

unfoldable pub raw_of : (b h : ℕ) (picture : List ℕ) → List ℕ
raw_of b h picture = picture

-- the bytes of a slot, and the memory with these bytes in the slot
unfoldable pub slot_bytes : (b h : ℕ) (memory : List ℕ) (slot : ℕ) → List ℕ
slot_bytes b h memory slot = take (h * b) (drop (slot * (h * b)) memory)

unfoldable pub with_bytes : (b h : ℕ) (memory : List ℕ) (slot : ℕ) (raw : List ℕ) → List ℕ
with_bytes b h memory slot raw = overlay_at (slot * (h * b)) raw memory

-- the picture of a slot, and the memory with this picture in the slot
unfoldable pub slot_picture : (b h : ℕ) (memory : List ℕ) (slot : ℕ) → List ℕ
slot_picture b h memory slot = picture_of b h (slot_bytes b h memory slot)

unfoldable pub with_picture : (b h : ℕ) (memory : List ℕ) (slot : ℕ) (picture : List ℕ) → List ℕ
with_picture b h memory slot picture = with_bytes b h memory slot (raw_of b h picture)

-- row y of a picture
abbrev pub picture_row : (b : ℕ) (picture : List ℕ) (y : ℕ) → List ℕ
picture_row b picture y = take b (drop (y * b) picture)

-- a slot's bytes with the dots of one rectangle replaced: what every painting function leaves
unfoldable pub painted : (b h : ℕ) (raw : List ℕ) (x y width height : ℕ) (new : ℕ → ℕ → ℕ) → List ℕ
painted b h raw x y width height new = raw_of b h (overdrawn b h (picture_of b h raw) x y width height new)
