-- The poll on the parts of the state, and the state with its phase. Assumes nothing.
use borrow.Author.Rules.{rules}
use Rattle.board.proofs.Replies.{poll-whole}
use Rattle.board.proofs.State.poll.Goals as goal

pub returns : goal.returns
returns c =
    let a = c.args in
    search (rules, poll-whole a.self a.tick a.memory.now a.out.now c.with_store.ensures c.poll_store-left.ensures)
