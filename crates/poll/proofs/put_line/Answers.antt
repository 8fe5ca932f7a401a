-- `put_line` meets its contract: the part that is lent is the row of the slot that the stage looks at. Assumes nothing.
use native.Mathlib.Omega.{arith}
use Rattle.settings.proofs.Plans.{bytes_is, rows_is}
use Rattle.poll.proofs.Rows.{stage-le, row_at_lem, row_fits, line-sent}
use Rattle.poll.proofs.put_line.Goals as goal

pub row_start-start-requires : goal.row_start-start-requires
row_start-start-requires c = (omega (arith, stage-le c.args.stage c.args.slot, c.slot_of_stage.ensures, c.requires.0.few), omega (arith, c.requires.3, (rows_is c.args.accepted.its)))

pub overflow_add-end : goal.overflow_add-end
overflow_add-end c = omega (arith, c.row_start-start.ensures.1)

pub slice_bounds-hand_out_line-end : goal.slice_bounds-hand_out_line-end
slice_bounds-hand_out_line-end c =
    let entry = c in
    let a = entry.args in
    let at = row_at_lem a.accepted.file.now a.row c.slot_of_stage.ensures (rows_is entry.args.accepted.its) (bytes_is entry.args.accepted.its) c.row_start-start.ensures.0 in
    row_fits a.accepted.file.now a.memory.now a.slot a.stage a.row entry.requires.0 entry.requires.3 c.row_start-start.result a.accepted.plan.shape.bytes at (bytes_is entry.args.accepted.its)

pub returns : goal.returns
returns c =
    let entry = c in
    let a = entry.args in
    let at = row_at_lem a.accepted.file.now a.row c.slot_of_stage.ensures (rows_is entry.args.accepted.its) (bytes_is entry.args.accepted.its) c.row_start-start.ensures.0 in
    line-sent a.accepted.file.now a.memory.now a.slot a.stage a.row entry.requires.0 entry.requires.3 c.row_start-start.result a.accepted.plan.shape.bytes at
    (bytes_is entry.args.accepted.its) a.accepted.plan.shape.rows (rows_is entry.args.accepted.its) c.hand_out_line.ensures
