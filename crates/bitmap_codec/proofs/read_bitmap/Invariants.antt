-- Each turn reads one row more, from the top of the picture on.
-- Assumes nothing.
use mathlib.Core.Path.{◌≡◌}
use Prim.Native.Nat.{ℕ, ◌<◌}
use lib.ListN.{get_or}
use Rattle.picture.specs.Slots.{picture_of, raw_of}
use Rattle.bitmap_codec.proofs.Rows.{part_read}
use Rattle.bitmap_codec.proofs.read_bitmap.Given as goal

abbrev pub invariant-loop-y : goal.invariant-loop-y
invariant-loop-y l =
    let s = l.shape in
    (l.raw ≡ raw_of s.bytes s.rows (part_read s.bytes s.rows s.stride l.file (picture_of s.bytes s.rows l.initial.raw) l.y))
    × ((k : ℕ) → get_or l.initial.raw k 0 < 256)
