-- `feed_fill`, by what was found. Assumes nothing.
use mathlib.Core.Path.{refl}
use borrow.Author.Rules.{rules}
use Rattle.board.proofs.Tests.{slot_still, fill_slot}
use Rattle.board.proofs.Replies.{some_refused, feed_refused, fed_replied}
use Rattle.board.proofs.State.feed_fill.Goals as goal

pub returns-in-Err : goal.returns-in-Err
returns-in-Err c =
    let a = c.args in
    rw c.refuse.ensures
    (search (rules, feed_refused a.self a.memory.now c.in-Err.ensures.number_is a.chunk.now (some_refused c.in-Err.refusal)))

pub feed_slot-fed-requires : goal.feed_slot-fed-requires
feed_slot-fed-requires c = fill_slot c.args.self _ c.in-Ok.plan c.in-Ok.ensures

pub reply_fed-requires : goal.reply_fed-requires
reply_fed-requires c = slot_still (fill_slot c.args.self _ c.in-Ok.plan c.in-Ok.ensures) (search rules)

pub returns : goal.returns
returns c =
    let a = c.args in
    let found = c.in-Ok.ensures in
    search (rules, fed_replied a.self a.memory.now found.number_is refl found.plan.shape_is c.reply_fed.ensures a.chunk.now c.chunk_wrote-wrote.ensures c.feed_slot-fed.ensures)
