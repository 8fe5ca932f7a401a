-- Each turn passes one stage, and counts its things off.
-- Assumes nothing.
use Rattle.std.proofs.Common.{◌≡◌, ◌+◌, ◌*◌, ◌-◌}
use Rattle.finish_order.specs.Order.{thing_at}
use Rattle.finish_order.specs.Facts.{stages_from, from_start}
use Rattle.finish_order.proofs.step_from_start.Given as goal

abbrev pub invariant-loop-at : goal.invariant-loop-at
invariant-loop-at l = thing_at (stages_from l.otp (0x28 + 8 * l.at-index) (4 - l.at-index)) l.left ≡ thing_at (from_start l.otp) l.k
