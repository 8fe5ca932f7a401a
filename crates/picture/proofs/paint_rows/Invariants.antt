-- Each turn paints one row more.
-- Assumes nothing.
use mathlib.Core.Path.{◌≡◌}
use Prim.Native.Nat.{◌*◌}
use lib.ListN.{length}
use Rattle.panel.specs.Dots.{dot}
use Rattle.picture.specs.Regions.{payload_row}
use Rattle.picture.specs.Slots.{painted}
use Rattle.picture.proofs.paint_rows.Given as goal

abbrev pub invariant-loop-j : goal.invariant-loop-j
invariant-loop-j g l = (length l.raw ≡ l.shape.rows * l.shape.bytes) × (l.raw ≡ painted l.shape.bytes l.shape.rows l.initial.raw l.fn.region.x l.fn.region.y l.fn.region.width l.j (dot (payload_row l.fn.region.width) l.payload))
