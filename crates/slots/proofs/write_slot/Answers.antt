-- The slot is lent as a part of the memory. Assumes nothing.
use Rattle.panel.specs.Facts.{sizes}
use Rattle.slots.proofs.Lent.{slot_written}
use Rattle.slots.proofs.write_slot.Goals as goal

pub returns : goal.returns
returns c =
    let a = c.args in
    let at = c.slot_range.ensures in
    slot_written (sizes a.shape) a.memory.now a.slot at.0 at.1 a.out.now c.write_bitmap.ensures.1
