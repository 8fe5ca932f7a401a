-- A dot is read by a shift and the lowest bit.
-- Assumes nothing.
use lib.Bits.{and_mask}
use Rattle.panel.specs.Dots.{row_dot}
use Rattle.picture.proofs.get_dot.Goals as goal

pub returns : goal.returns
unfolding row_dot
returns c = and_mask _ 1
