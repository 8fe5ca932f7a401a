-- `start`, by what was found. Assumes nothing.
use mathlib.Core.Path.{refl}
use lib.ListN.{length}
use Rattle.board.proofs.Replies.{some_refused, start-refused, start-accepted}
use Rattle.board.proofs.State.start.Goals as goal

pub returns-in-Ok : goal.returns-in-Ok
returns-in-Ok c =
    let a = c.args in
    rw c.accept.ensures (start-accepted a.self (length a.memory.now) a.slot a.tick c.in-Ok.ensures c.begin.ensures c.with_phase.ensures refl refl)

pub returns-in-Err : goal.returns-in-Err
returns-in-Err c =
    let a = c.args in
    rw c.refuse.ensures (start-refused a.self (length a.memory.now) a.slot a.tick c.in-Err.ensures (some_refused c.in-Err.refusal))
