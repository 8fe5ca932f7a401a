-- Assumes nothing.
use Rattle.std.proofs.Common.{arith, ap, sym}
use mathlib.Core.Bool.{not}
use Rattle.lists.proofs.Rules.{refused, below_fails}
use Rattle.layout_rules.specs.Boxes.{box_count, box_good}
use Rattle.layout_rules.proofs.Boxes.{box-within}
use Rattle.layout_rules.proofs.boxes_good.Goals as goal

pub box_good-requires : goal.box_good-requires
box_good-requires c =
    (c.loop-i.invariant.0, box-within c.args.list.now c.requires c.loop-i.i c.loop-i.at (omega arith) c.loop-i.invariant.0)

pub returns-then-not-box_good : goal.returns-then-not-box_good
returns-then-not-box_good c =
    let list = c.args.list.now in
    sym (below_fails (box_count list) (box_good list) c.loop-i.i (omega arith) (refused c.box_good.ensures (ap not c.if-not-box_good.true)))

pub next_box-at-requires : goal.next_box-at-requires
next_box-at-requires c = box-within c.args.list.now c.requires c.loop-i.i c.loop-i.at (omega arith) c.loop-i.invariant.0
