-- `abandon`, by what was found. Assumes nothing.
use mathlib.Core.Path.{refl}
use lib.ListN.{length}
use Rattle.board.proofs.Replies.{some_refused, abandon-refused, abandon-accepted}
use Rattle.board.proofs.State.abandon.Goals as goal

pub returns-in-Ok : goal.returns-in-Ok
returns-in-Ok c =
    let a = c.args in
    rw c.accept.ensures (abandon-accepted a.self (length a.memory.now) c.in-Ok.ensures c.with_phase.ensures refl refl)

pub returns-in-Err : goal.returns-in-Err
returns-in-Err c =
    let a = c.args in
    rw c.refuse.ensures (abandon-refused a.self (length a.memory.now) c.in-Err.ensures (some_refused c.in-Err.refusal))
