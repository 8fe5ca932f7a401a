-- `reply_fed`: the state with the fill that is left, and with a fresh count where the slot was written. Assumes nothing.
use mathlib.Core.Bool.{not}
use mathlib.Core.Path.{ap}
use borrow.Author.Tests.{not-false, not-true}
use Rattle.panel.specs.Facts.{sizes}
use Rattle.board.proofs.Replies.{fed_unwritten, fed_written}
use Rattle.board.proofs.State.reply_fed.Goals as goal

pub returns-then-not-wrote : goal.returns-then-not-wrote
returns-then-not-wrote c =
    let a = c.args in
    fed_unwritten (sizes a.shape) a.self a.memory.now a.fed c.with_fill-filled.ensures a.wrote (not-true _ (ap not c.if-not-wrote.true)) c.with_store.ensures

pub returns : goal.returns
returns c =
    let a = c.args in
    fed_written (sizes a.shape) a.self a.memory.now a.fed c.with_fill-filled.ensures a.wrote (not-false _ (ap not c.if-not-wrote.false)) c.count_slot-counts.ensures
    c.with_summaries.ensures c.with_store-2.ensures
