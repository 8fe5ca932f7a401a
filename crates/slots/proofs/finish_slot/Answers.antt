-- The slot is lent as a part of the memory. Assumes nothing.
use Rattle.panel.specs.Facts.{sizes}
use Rattle.fill_calls.specs.Calls.{finishing}
use Rattle.fill_calls.proofs.Sizes.{length-finished}
use Rattle.slots.proofs.Lent.{slot_acted}
use Rattle.slots.proofs.finish_slot.Goals as goal

pub returns : goal.returns
returns c =
    let a = c.args in
    let s = a.shape in
    let at = c.slot_range.ensures in
    slot_acted (sizes s) a.memory.now a.fill.slot at.0 at.1 c.requires.slot_in (finishing s.bytes s.rows s.stride a.fill)
    (λ raw. length-finished s.bytes s.rows s.stride s.some s.narrow s.within s.small a.fill raw)
    c.finish.ensures
