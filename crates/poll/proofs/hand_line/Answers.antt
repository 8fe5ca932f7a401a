-- `hand_line` meets its contract. Assumes nothing.
use Rattle.settings.proofs.Plans.{frames-is, rows_is}
use Rattle.poll.proofs.Next.{line-out}
use native.Mathlib.Omega.{arith}
use Rattle.poll.proofs.hand_line.Goals as goal

pub put_line-len-requires : goal.put_line-len-requires
put_line-len-requires c = (c.requires.1, c.requires.0.low, c.requires.0.high, c.requires.0.rows, c.requires.2)

pub next_position-next-requires : goal.next_position-next-requires
next_position-next-requires c =
    let entry = c in
    (entry.requires.0.high, omega (arith, entry.requires.0.frames, (frames-is entry.args.accepted.its)), omega (arith, entry.requires.0.rows, (rows_is entry.args.accepted.its)))

pub returns : goal.returns
returns c =
    let entry = c in
    let a = entry.args in
    line-out a.accepted.file.now a.run a.reading.tick a.reading.moment a.out.now a.memory.now a.first a.stage a.frame a.row a.accepted.plan.shape.rows
    a.accepted.plan.shape.frames (rows_is entry.args.accepted.its) (frames-is entry.args.accepted.its) c.put_line-len.ensures c.next_position-next.ensures c.go_on.ensures
