-- Assumes nothing.
use Rattle.std.proofs.Common.{arith}
use Rattle.layout_rules.proofs.Boxes.{box-within}
use Rattle.layout_rules.proofs.start_of.Goals as goal

pub next_box-at-requires : goal.next_box-at-requires
next_box-at-requires c = box-within c.args.list.now c.requires.0 c.loop.counter c.loop.at (omega arith) c.loop.invariant
