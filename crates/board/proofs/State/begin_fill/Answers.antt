-- `begin_fill`, by what was found. Assumes nothing.
use mathlib.Core.Path.{refl}
use lib.ListN.{length}
use Rattle.board.proofs.Replies.{some_refused, begin_refused, begin_accepted}
use Rattle.board.proofs.State.begin_fill.Goals as goal

pub returns-in-Ok : goal.returns-in-Ok
returns-in-Ok c =
    let a = c.args in
    rw c.accept.ensures (begin_accepted a.self (length a.memory.now) a.slot c.in-Ok.ensures c.begun.ensures c.with_fill.ensures refl refl)

pub returns-in-Err : goal.returns-in-Err
returns-in-Err c =
    let a = c.args in
    rw c.refuse.ensures (begin_refused a.self (length a.memory.now) a.slot c.in-Err.ensures (some_refused c.in-Err.refusal))
