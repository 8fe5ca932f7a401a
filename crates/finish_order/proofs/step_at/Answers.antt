-- The table, or the soft start and what comes after it.
-- Assumes nothing.
use Rattle.finish_order.proofs.Order.{before-start, from_start_lem, elsewhere}
use Rattle.finish_order.proofs.step_at.Goals as goal

pub returns-then-k-lt33 : goal.returns-then-k-lt33
returns-then-k-lt33 c =
    let a = c.args in
    elsewhere (c.step_before.ensures a.otp.now) (before-start a.otp.now a.k c.if-k-lt33.true)

pub returns : goal.returns
returns c =
    let a = c.args in
    elsewhere c.step_from_start.ensures (from_start_lem a.otp.now a.k c.if-k-lt33.false)
