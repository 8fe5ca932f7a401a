-- The bytes come after the register.
-- Assumes nothing.
use Rattle.std.proofs.Common.{refl, length}
use Rattle.std.proofs.lemmas.Result.{err_from_is_err_and}
use Rattle.finish_panel.proofs.Update.{refused, put_after, written}
use Rattle.finish_panel.proofs.give_write.Goals as goal

pub returns-in_err-given : goal.returns-in_err-given
returns-in_err-given c =
    let a = c.args in
    let p = err_from_is_err_and c.from_residual.result c.from_residual.ensures.1 in
    rw (p.1, p.2) (refused a.register (length a.bytes.now) a.bytes.now a.out.now refl c.in_err-given.ensures)

pub returns : goal.returns
returns c =
    let a = c.args in
    rw (c.put_at.ensures, put_after a.bytes.now) (written a.register (length a.bytes.now) a.bytes.now a.out.now refl c.in_ok-given.ensures)
