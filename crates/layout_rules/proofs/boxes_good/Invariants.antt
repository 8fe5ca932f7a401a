-- Each turn judges one box more.
-- Assumes nothing.
use Rattle.std.proofs.Common.{◌≡◌, true}
use Rattle.lists.specs.Rules.{all_below}
use Rattle.layout_rules.specs.Boxes.{start_of, box_good}
use Rattle.layout_rules.proofs.boxes_good.Given as goal

abbrev pub invariant-loop-i : goal.invariant-loop-i
invariant-loop-i l = (l.at ≡ start_of l.list l.i) × (all_below l.i (box_good l.list) ≡ true)
