-- Too many children, or what each of them keeps.
-- Assumes nothing.
use Rattle.std.proofs.Common.{rules, tests, arith, ◌≡◌, ◌+◌, ◌∙◌, true, false}
use borrow.Author.Tests.{lt-leb}
use Rattle.std.proofs.lemmas.Iterator.{cases_from_all, YieldsList-from_range}
use Rattle.layout_rules.specs.Boxes.{child_count, child_good}
use Rattle.layout_rules.proofs.Boxes.{box-full, box_few}
use Rattle.layout_rules.proofs.Ranges.{below_by_range}
use Rattle.layout_rules.proofs.box_good.Goals as goal

pub returns-then-k-le8 : goal.returns-then-k-le8
returns-then-k-le8 c =
    let a = c.args in
    let list = a.list.now in
    let ran = cases_from_all _ _ _ (λ j. child_good list a.i a.at j ≡ true) (λ j. child_good list a.i a.at j ≡ false) c.all.ensures.ran
    (YieldsList-from_range 0 (child_count list a.at) (child_count list a.at) (rw c.from-k.ensures) (omega arith))
    (λ x q k. search (rules, tests)) (λ x q k. search (rules, tests)) in
    below_by_range _ 0 (child_count list a.at) (child_good list a.i a.at) (λ j. child_good list a.i a.at j ≡ true) (λ j. child_good list a.i a.at j ≡ false)
    (λ k e. let s : 0 + k ≡ k = omega arith in rw s at e)
    (λ k e. let s : 0 + k ≡ k = omega arith in rw s at e) ran
    ∙ box_few list a.i a.at c.requires.0 (omega arith)

pub returns-else-k-le8 : goal.returns-else-k-le8
returns-else-k-le8 c =
    let a = c.args in
    rw (lt-leb c.from-k.result 8 (omega arith)) (box-full a.list.now a.i a.at c.requires.0 (omega arith))
