-- 4, or the picture. Assumes nothing.
use mathlib.Core.Bool.{not}
use mathlib.Core.Path.{ap}
use borrow.Author.Rules.{rules}
use Rattle.lists.proofs.Rules.{refused, passed}
use Rattle.panel.specs.Facts.{sizes}
use Rattle.slots.proofs.Lent.{slot_read}
use Rattle.slots.proofs.Placed.{bitmap_4, bitmap_room, bitmap_0}
use Rattle.slots.proofs.place_bitmap.Goals as goal

pub returns-then-not-bitmap_good : goal.returns-then-not-bitmap_good
returns-then-not-bitmap_good c =
    let a = c.args in
    bitmap_4 (sizes a.shape) a.memory.now a.slot a.bitmap.now (refused c.bitmap_good.ensures (ap not c.if-not-bitmap_good.true))

pub read_bitmap-requires : goal.read_bitmap-requires
read_bitmap-requires c =
    let a = c.args in
    (search rules, bitmap_room (sizes a.shape) a.memory.now a.slot a.bitmap.now (passed c.bitmap_good.ensures (ap not c.if-not-bitmap_good.false)))

pub returns : goal.returns
returns c =
    let a = c.args in
    let at = c.slot_range.ensures in
    bitmap_0 (sizes a.shape) a.memory.now a.slot a.bitmap.now (passed c.bitmap_good.ensures (ap not c.if-not-bitmap_good.false))
    (slot_read (sizes a.shape) a.memory.now a.slot at.0 at.1 a.bitmap.now c.read_bitmap.ensures)
