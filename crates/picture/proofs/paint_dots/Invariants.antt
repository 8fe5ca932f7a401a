-- Each turn paints one dot more of the row: `dot_more`.
-- Assumes nothing.
use mathlib.Core.Path.{◌≡◌}
use Prim.Native.Nat.{◌+◌, ◌*◌}
use lib.ListN.{length}
use Rattle.panel.specs.Dots.{row_dot}
use Rattle.picture.specs.Slots.{painted}
use Rattle.picture.proofs.paint_dots.Given as goal

abbrev pub invariant-loop-k : goal.invariant-loop-k
invariant-loop-k l = (length l.raw ≡ l.h * l.b) × (l.raw ≡ painted l.b l.h l.initial.raw l.x l.y l.k 1 (λ u _. row_dot l.row (l.i + u)))
