-- The slot is lent as a part of the memory. Assumes nothing.
use borrow.Author.Rules.{rules}
use Rattle.panel.specs.Facts.{sizes}
use Rattle.fill_calls.specs.Calls.{feeding}
use Rattle.fill_calls.proofs.Sizes.{length-fed}
use Rattle.slots.proofs.Lent.{slot_acted}
use Rattle.slots.proofs.feed_slot.Goals as goal

pub returns : goal.returns
returns c =
    let a = c.args in
    let s = a.shape in
    let at = c.slot_range.ensures in
    slot_acted (sizes s) a.memory.now a.fill.slot at.0 at.1 c.requires.slot_in (feeding s.bytes s.rows s.stride a.fill a.chunk.now)
    (λ raw size. length-fed s.bytes s.rows s.stride s.some s.narrow s.within s.small a.fill (search (rules, c.well_formed)) raw size a.chunk.now)
    c.feed.ensures
