-- Assumes nothing.
use Rattle.std.proofs.Common.{arith, ◌<◌}
use lib.Seq.{get_or-take, length-take-le}
use Rattle.layout.specs.Answer.{nowhere}
use Rattle.layout_list.proofs.Lines.{lines_more}
use Rattle.layout_list.proofs.put_leaves.Goals as goal

pub loop-leaf-preserved : goal.loop-leaf-preserved
loop-leaf-preserved c =
    let leaves = c.args.leaves.now in
    let drawn = c.requires.0 in
    let l = c.loop-leaf in
    let here : l.leaf-index < leaves.count = omega (arith, length-take-le leaves.count leaves.rects (omega (arith, drawn.few, drawn.whole))) in (
      rw (c.put_leaf.ensures.text, l.invariant.0, get_or-take leaves.count leaves.rects l.leaf-index nowhere here)
          (lines_more leaves.rects l.leaf-index (omega (arith, drawn.few, drawn.whole))),
      omega (arith, c.put_leaf.ensures.short, l.invariant.1),
    )
