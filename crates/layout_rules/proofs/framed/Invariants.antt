-- Each turn passes one box.
-- Assumes nothing.
use Rattle.std.proofs.Common.{◌≡◌}
use Rattle.layout_rules.specs.Boxes.{start_of}
use Rattle.layout_rules.proofs.framed.Given as goal

abbrev pub invariant-loop : goal.invariant-loop
invariant-loop l = l.at ≡ start_of l.list l.counter
