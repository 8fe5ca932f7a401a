-- Place k is in a stage, or after the last.
-- Assumes nothing.
use Rattle.std.proofs.Common.{arith, ◌≡◌, ◌-◌, ◌+◌, ◌*◌, ◌∙◌}
use Rattle.finish_order.proofs.Order.{stage_start, in_stage, past_stage, elsewhere}
use Rattle.finish_order.proofs.step_from_start.Goals as goal

pub returns-then-left-n : goal.returns-then-left-n
returns-then-left-n c =
    let otp = c.args.otp.now in
    let l = c.loop-at in
    let at = stage_start l.at-index (omega arith) in
    let size = rw at at c.stage_length-n.ensures.0 in
    elsewhere c.stage_step.ensures
    (λ _ _ _. rw at (in_stage otp (0x28 + 8 * l.at-index) l.left (4 - l.at-index) (omega arith) (omega (arith, size))) ∙ l.invariant)

pub loop-at-preserved : goal.loop-at-preserved
loop-at-preserved c =
    let otp = c.args.otp.now in
    let l = c.loop-at in
    let at = stage_start l.at-index (omega arith) in
    let size = rw at at c.stage_length-n.ensures.0 in
    let e : 0x28 + 8 * (l.at-index + 1) ≡ 0x28 + 8 * l.at-index + 8 = omega arith in
    let n : 4 - (l.at-index + 1) ≡ 4 - l.at-index - 1 = omega arith in
    rw (e, n, size)
    (past_stage otp (0x28 + 8 * l.at-index) l.left (4 - l.at-index) (omega arith) (omega (arith, size)) ∙ l.invariant)

pub returns : goal.returns
returns c =
    let otp = c.args.otp.now in
    let l = c.loop-at in
    let e : 4 - l.at-index ≡ 0 = omega arith in
    elsewhere (c.step_after.ensures otp) (λ _ _ _. rw e at l.invariant)
