-- The three loops, one after the other, make a line.
-- Assumes nothing.
use mathlib.Core.Path.{ap}
use Prim.Native.Nat.{ℕ}
use native.Mathlib.Omega.{arith}
use lib.ListN.{length}
use Rattle.panel.specs.Dots.{row_dot}
use Rattle.wire.proofs.Line.{line_laid}
use Rattle.wire.proofs.put_line.Goals as goal

pub returns : goal.returns
returns c =
    let a = c.args in
    line_laid (length a.row.now) a.rows a.stage a.y (row_dot a.row.now) _ _ a.out.now _ _ _
    (ap (λ (p : ℕ × ℕ). p.0) c.dot_codes-white.ensures.0)
    (ap (λ (p : ℕ × ℕ). p.1) c.dot_codes-white.ensures.0)
    (omega arith)
    c.put_dots.ensures
    c.put_scan.ensures
    c.put_dots-2.ensures
