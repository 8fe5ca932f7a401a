-- Assumes nothing.
use Rattle.std.proofs.Common.{arith}
use Rattle.layout_rules.proofs.Boxes.{box-within}
use Rattle.layout_rules.proofs.times_child.Goals as goal

pub times_in-times-requires : goal.times_in-times-requires
times_in-times-requires c = box-within c.args.list.now c.requires c.loop.counter c.loop.at (omega arith) c.loop.invariant.0

pub next_box-at-requires : goal.next_box-at-requires
next_box-at-requires c = box-within c.args.list.now c.requires c.loop.counter c.loop.at (omega arith) c.loop.invariant.0
