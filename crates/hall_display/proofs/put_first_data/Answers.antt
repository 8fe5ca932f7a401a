-- The header, and the front of the image after it.
-- Assumes nothing.
use native.Mathlib.Omega.{arith}
use lib.ListN.{length-take}
use Rattle.hall_display.specs.Displays.{panel_code, depth_bits}
use Rattle.hall_display.proofs.Commands.{first_put}
use Rattle.hall_display.proofs.put_first_data.Goals as goal

pub put_at-requires-2 : goal.put_at-requires-2
put_at-requires-2 c = simp length-take (omega arith)

pub returns : goal.returns
returns c =
    let a = c.args in
    first_put (panel_code a.display.panel) (depth_bits a.display.depth) a.image.now a.n a.out.now c.requires.0 c.requires.1
    c.header.ensures c.put_at.ensures c.put_at-2.ensures
