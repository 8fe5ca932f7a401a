-- The zeros come after the register.
-- Assumes nothing.
use Rattle.std.proofs.Common.{arith, ◌≡◌, ◌-◌, ◌+◌, length, take, drop, replicate}
use Rattle.std.proofs.lemmas.Result.{err_from_is_err_and}
use lib.ListN.{length-replicate, length-take, length-drop, length-set}
use Rattle.finish_panel.proofs.Update.{refused, written}
use Rattle.finish_panel.proofs.give_zeros.Goals as goal

pub returns-in_err-given : goal.returns-in_err-given
returns-in_err-given c =
    let a = c.args in
    let p = err_from_is_err_and c.from_residual.result c.from_residual.ensures.1 in
    rw (p.1, p.2) (refused a.register a.n (replicate a.n 0) a.out.now (rw length-replicate) c.in_err-given.ensures)

pub returns : goal.returns
returns c =
    let a = c.args in
    let begun = c.in_ok-given.ensures in
    let whole : length (take (a.n + 1 - 1) (drop 1 c.begin_write.new.out)) ≡ a.n =
    rw (begun.2, length-take, length-drop, length-set) (omega (arith, begun.0)) in
    rw (c.fill.ensures.after (λ y e. e), whole)
    (written a.register a.n (replicate a.n 0) a.out.now (rw length-replicate) begun)
