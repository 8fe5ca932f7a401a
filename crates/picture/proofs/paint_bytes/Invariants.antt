-- Each turn paints eight dots more of the row, by the byte that holds them: `byte_more`.
-- Assumes nothing.
use mathlib.Core.Path.{◌≡◌}
use Prim.Native.Nat.{◌+◌, ◌*◌}
use lib.ListN.{length}
use Rattle.panel.specs.Dots.{row_dot}
use Rattle.picture.specs.Slots.{painted}
use Rattle.picture.proofs.paint_bytes.Given as goal

abbrev pub invariant-loop-k : goal.invariant-loop-k
invariant-loop-k l = (length l.raw ≡ l.fn.shape.rows * l.fn.shape.bytes) × (l.raw ≡ painted l.fn.shape.bytes l.fn.shape.rows l.initial.raw l.x l.y (8 * l.k) 1 (λ u _. row_dot l.row (l.i + u)))
