-- `show_slot` meets its contract: the slot stands after slot 0, in the memory. Assumes nothing.
use native.Mathlib.Omega.{arith}
use Rattle.settings.proofs.Plans.{bytes_is, rows_is}
use Rattle.poll.proofs.Rows.{slot-fits, slot_later, shown_as}
use Rattle.poll.proofs.show_slot.Goals as goal

pub overflow_mul-size : goal.overflow_mul-size
overflow_mul-size c =
    let a = c.args in
    omega (arith, slot-fits a.accepted.file.now a.slot a.memory.now c.requires.1 a.accepted.plan.shape.rows a.accepted.plan.shape.bytes (rows_is c.args.accepted.its) (bytes_is c.args.accepted.its))

pub overflow_mul-slot : goal.overflow_mul-slot
overflow_mul-slot c =
    let a = c.args in
    omega (arith, slot-fits a.accepted.file.now a.slot a.memory.now c.requires.1 a.accepted.plan.shape.rows a.accepted.plan.shape.bytes (rows_is c.args.accepted.its) (bytes_is c.args.accepted.its))

pub copy_to_shown-requires : goal.copy_to_shown-requires
copy_to_shown-requires c =
    let a = c.args in
    (slot_later a.accepted.file.now a.slot a.memory.now c.requires.1 a.accepted.plan.shape.rows a.accepted.plan.shape.bytes (rows_is c.args.accepted.its) (bytes_is c.args.accepted.its) c.requires.0, slot-fits a.accepted.file.now a.slot a.memory.now c.requires.1 a.accepted.plan.shape.rows a.accepted.plan.shape.bytes (rows_is c.args.accepted.its) (bytes_is c.args.accepted.its))

pub returns : goal.returns
returns c =
    let entry = c in
    let a = entry.args in
    shown_as a.accepted.file.now a.slot a.memory.now entry.requires.1 a.accepted.plan.shape.rows a.accepted.plan.shape.bytes (rows_is entry.args.accepted.its) (bytes_is entry.args.accepted.its) c.copy_to_shown.ensures
