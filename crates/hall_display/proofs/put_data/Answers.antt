-- The first command has the header in front; the others lie in the image.
-- Assumes nothing.
use mathlib.Core.Path.{◌≡◌}
use Prim.Native.Nat.{◌+◌, ◌-◌, ◌*◌}
use native.Mathlib.Omega.{arith}
use Rattle.hall_display.specs.Displays.{panel_code, depth_bits}
use Rattle.hall_display.proofs.Commands.{later_put}
use Rattle.hall_display.proofs.put_data.Goals as goal

pub returns-then-number-eq0 : goal.returns-then-number-eq0
returns-then-number-eq0 c = rw c.if-number-eq0.true c.put_first_data.ensures

pub returns : goal.returns
returns c =
    let a = c.args in
    let start = 251 * a.number - 16 in
    let e : start + a.n - start ≡ a.n = omega arith in
    later_put (panel_code a.display.panel) (depth_bits a.display.depth) a.image.now a.number a.n a.out.now c.requires.0 (omega arith)
    (rw e at c.put_at.ensures)
