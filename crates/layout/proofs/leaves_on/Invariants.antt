-- Each turn looks at the place of one box more, and puts it to the leaves if it is one.
-- Assumes nothing.
use Rattle.std.proofs.Common.{◌≡◌, true}
use Rattle.lists.specs.Rules.{all_below}
use Rattle.layout_rules.specs.Boxes.{start_of}
use Rattle.layout.specs.Places.{size_good}
use Rattle.layout.specs.Answer.{leaves_below, leaves_with}
use Rattle.layout.proofs.leaves_on.Given as goal

abbrev pub invariant-loop-c : goal.invariant-loop-c
invariant-loop-c l = (l.at ≡ start_of l.list l.c)
    × (all_below l.c (size_good l.list l.width l.height) ≡ true)
    × (l.leaves ≡ leaves_with (leaves_below l.list l.width l.height l.c))
