-- `open`, by what was found. Assumes nothing.
use mathlib.Core.Path.{refl}
use borrow.Author.Rules.{rules}
use Rattle.board.proofs.Replies.{some_refused, open_refused, open_short, open_accepted}
use Rattle.board.proofs.open.Goals as goal

pub opened_state-requires : goal.opened_state-requires
opened_state-requires c =
    let a = c.args in
    open_short a.file.now a.n a.memory.now c.in-Ok.ensures refl

pub returns-in-Ok : goal.returns-in-Ok
returns-in-Ok c =
    let a = c.args in
    search (rules, open_accepted a.file.now a.n a.memory.now c.in-Ok.ensures refl c.opened_state.ensures (c.fill.ensures.after (λ y e. e)))

pub returns-in-Err : goal.returns-in-Err
returns-in-Err c =
    let a = c.args in
    rw c.number.ensures
    (search (rules, open_refused a.file.now a.n a.memory.now c.in-Err.ensures c.empty_state.ensures (some_refused c.in-Err.refusal)))
