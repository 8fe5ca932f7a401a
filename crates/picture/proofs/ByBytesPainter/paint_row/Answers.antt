-- The row is painted in three parts, or as one edge where it fills no byte: `row_parts`.
-- Assumes nothing.
use mathlib.Core.Path.{refl}
use Prim.Native.Nat.{◌+◌}
use native.Mathlib.Omega.{arith}
use Rattle.panel.specs.Dots.{row_dot}
use Rattle.picture.proofs.Pictures.{row_dot_lt}
use Rattle.picture.proofs.Slots.{row_parts}
use Rattle.picture.proofs.ByBytesPainter.paint_row.Goals as goal

pub returns : goal.returns
returns c =
    let s = c in
    let a = s.args in
    row_parts a.shape.bytes a.shape.rows (omega arith) a.raw.now _ _ _ a.x (a.y + a.j) _ _ _ a.width
    (row_dot a.row.now) (row_dot_lt a.row.now) refl (omega arith)
    c.paint_edge-2.ensures c.paint_bytes.ensures c.paint_edge-3.ensures
