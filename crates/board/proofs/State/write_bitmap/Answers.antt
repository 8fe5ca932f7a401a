-- `write_bitmap`, by what was found. Assumes nothing.
use mathlib.Core.Path.{refl}
use borrow.Author.Rules.{rules}
use Rattle.board.proofs.Tests.{write_slot}
use Rattle.board.proofs.Replies.{some_refused, write_refused, write_accepted}
use Rattle.board.proofs.State.write_bitmap.Goals as goal

pub returns-in-Err : goal.returns-in-Err
returns-in-Err c =
    let a = c.args in
    rw c.refuse.ensures
    (search (rules, write_refused a.self a.memory.now a.slot a.out.now c.in-Err.ensures.number_is (some_refused c.in-Err.refusal)))

pub write_slot-requires : goal.write_slot-requires
write_slot-requires c = write_slot c.args.self _ c.in-Ok.plan c.args.slot _ c.in-Ok.ensures

pub returns : goal.returns
returns c =
    let a = c.args in
    let found = c.in-Ok.ensures in
    search (rules, write_accepted a.self a.memory.now a.slot a.out.now found.number_is refl found.plan.shape_is c.write_slot.ensures)
