-- Box c is the number c - 1 of those after the first.
-- Assumes nothing.
use Rattle.std.proofs.Common.{rules, tests, arith, ◌≡◌, ◌+◌, ◌-◌, refl}
use borrow.Author.Tests.{eq-eqb, ne_eqb}
use Rattle.std.proofs.lemmas.Iterator.{cases_from_all, YieldsList-from_range}
use Rattle.layout_rules.specs.Boxes.{box_count, times_child, child_once}
use Rattle.layout_rules.proofs.Ranges.{below_by_range}
use Rattle.layout_rules.proofs.each_once.Goals as goal

pub returns : goal.returns
unfolding child_once
returns c =
    let list = c.args.list.now in
    let ran = cases_from_all _ _ _ (λ x. times_child list x ≡ 1) (λ x. times_child list x ≡ 1 → ⊥) c.all.ensures.ran
    (YieldsList-from_range 1 (box_count list) (box_count list - 1) (rw c.from.ensures) refl) (λ x q k. search (rules, tests)) (λ x q k. search (rules, tests)) in
    below_by_range _ 1 (box_count list - 1) (child_once list) (λ x. times_child list x ≡ 1) (λ x. times_child list x ≡ 1 → ⊥)
    (λ k e. let s : 1 + k ≡ k + 1 = omega arith in eq-eqb (times_child list (k + 1)) 1 (rw s at e))
    (λ k d. let s : 1 + k ≡ k + 1 = omega arith in ne_eqb (times_child list (k + 1)) 1 (rw s at d)) ran
