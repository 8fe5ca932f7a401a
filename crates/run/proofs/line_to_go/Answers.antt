-- `line_to_go` meets its contract. Assumes nothing.
use Rattle.std.proofs.Common.{arith}
use Rattle.settings.proofs.Plans.{frames-is}
use Rattle.run.proofs.Due.{due_frame, due_later}
use Rattle.run.proofs.Valid.{at-line}
use Rattle.run.proofs.line_to_go.Goals as goal

pub returns-then-row-ne0 : goal.returns-then-row-ne0
returns-then-row-ne0 c =
    let a = c.args in
    omega (arith, due_later a.accepted.file.now a.run a.stage a.frame a.row c.if-row-ne0.true, c.requires.order)

pub frame_number-i-requires : goal.frame_number-i-requires
frame_number-i-requires c =
    let a = c.args in
    let line = at-line a.accepted.file.now a.run a.stage a.frame a.row c.requires.valid in
    (line.low, line.high, omega (arith, frames-is a.accepted.its, line.frames))

pub remaining-requires : goal.remaining-requires
remaining-requires c =
    let a = c.args in
    let line = at-line a.accepted.file.now a.run a.stage a.frame a.row c.requires.valid in
    omega (arith, line.due, c.requires.order)

pub returns : goal.returns
returns c =
    let entry = c in
    let a = entry.args in
    let i = rw (frames-is a.accepted.its) at c.frame_number-i.ensures.0 in
    omega (
      arith,
      due_frame a.accepted.file.now a.run a.stage a.frame a.row c.if-row-ne0.false,
      c.remaining.ensures,
    )
