-- Each turn counts in one box more.
-- Assumes nothing.
use Rattle.std.proofs.Common.{◌≡◌, ◌≤◌, ◌*◌}
use Rattle.counting.specs.Below.{sum_below}
use Rattle.layout_rules.specs.Boxes.{start_of, times_in}
use Rattle.layout_rules.proofs.times_child.Given as goal

abbrev pub invariant-loop : goal.invariant-loop
invariant-loop l = (l.at ≡ start_of l.list l.counter) × (l.times ≤ 255 * l.counter) × (l.times ≡ sum_below l.counter (λ i. times_in l.list l.c (start_of l.list i)))
