-- Place k is part k % 4 of repeat k / 4 + 1.
-- Assumes nothing.
use Rattle.std.proofs.Common.{arith, refl, ◌≡◌, ◌+◌}
use Rattle.finish_order.proofs.Order.{turn_le, stage_at}
use Rattle.finish_order.proofs.stage_step.Goals as goal

pub returns-in-0 : goal.returns-in-0
returns-in-0 c =
    let a = c.args in
    record { within = refl; is = λ _ _ _. stage_at a.otp.now a.at a.k 0 c.requires.1 (omega arith) }

pub phase-requires : goal.phase-requires
phase-requires c =
    let a = c.args in
    (omega arith, omega (arith, turn_le a.otp.now a.at a.k c.requires.1))

pub phase-requires-in-1 : goal.phase-requires-in-1
phase-requires-in-1 c =
    let a = c.args in
    (omega arith, omega (arith, turn_le a.otp.now a.at a.k c.requires.1))

pub returns-in-1 : goal.returns-in-1
returns-in-1 c =
    let a = c.args in
    let here = stage_at a.otp.now a.at a.k 1 c.requires.1 (omega arith) in
    let low : a.at + 1 + 2 ≡ a.at + 3 = omega arith in
    let high : a.at + 2 + 2 ≡ a.at + 4 = omega arith in
    record { within = refl; is = λ _ _ _. rw (c.phase.ensures, c.phase-in-1.ensures, low, high) here }

pub returns-in-2 : goal.returns-in-2
returns-in-2 c =
    let a = c.args in
    record { within = refl; is = λ _ _ _. stage_at a.otp.now a.at a.k 2 c.requires.1 (omega arith) }

pub returns-in_default : goal.returns-in_default
returns-in_default c =
    let a = c.args in
    let here = stage_at a.otp.now a.at a.k 3 c.requires.1 (omega arith) in
    record { within = refl; is = λ _ _ _. rw c.low_seven.ensures.0 here }
