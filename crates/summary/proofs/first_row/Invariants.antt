-- The rows above have no black dot, and neither have the bytes of this row that were passed.
-- Assumes nothing.
use mathlib.Core.Path.{◌≡◌}
use mathlib.Core.Bool.{false}
use Prim.Native.Nat.{ℕ, ◌-◌, ◌≤◌, ◌<◌}
use lib.ListN.{take}
use Rattle.std.specs.List.{sum_by}
use Rattle.picture.specs.Slots.{picture_of}
use Rattle.summary.specs.Summaries.{has_black}
use Rattle.summary.specs.Facts.{black_in_byte}
use Rattle.summary.proofs.first_row.Given as goal

abbrev pub invariant-rows : goal.invariant-rows
invariant-rows l =
    (l.y ≤ l.h)
    × ((k : ℕ) → k < l.y → has_black l.b (picture_of l.b l.h l.raw) k ≡ false)

abbrev pub decreases-rows : goal.decreases-rows
decreases-rows l = l.h - l.y

abbrev pub invariant-loop-byte : goal.invariant-loop-byte
invariant-loop-byte l = sum_by black_in_byte (take l.byte-index l.row) ≡ 0
