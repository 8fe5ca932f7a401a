-- The slot is lent as a part of the memory. Assumes nothing.
use Rattle.panel.specs.Facts.{sizes}
use Rattle.fill_calls.specs.Calls.{cancelling}
use Rattle.fill_calls.proofs.Sizes.{rows-cancelled}
use Rattle.slots.proofs.Lent.{slot_acted}
use Rattle.slots.proofs.cancel_slot.Goals as goal

pub returns : goal.returns
returns c =
    let a = c.args in
    let s = a.shape in
    let at = c.slot_range.ensures in
    slot_acted (sizes s) a.memory.now a.fill.slot at.0 at.1 c.requires.slot_in (λ raw. cancelling s.bytes s.rows)
    (λ raw long. (rows-cancelled s.bytes s.rows s.stride s.some s.narrow s.within s.small).0)
    c.cancel.ensures
