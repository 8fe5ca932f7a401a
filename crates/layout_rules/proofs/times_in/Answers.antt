-- The children that are box c, counted.
-- Assumes nothing.
use Rattle.std.proofs.Common.{rules, tests, arith, ◌≡◌, ◌∙◌, ◌+◌, ℕ, Bool, eqb, get_or}
use Rattle.std.proofs.lemmas.Iterator.{YieldsList-from_range}
use Rattle.std.proofs.lemmas.Iterator.Consumers.{YieldsList-from_filter, count_from_yields_List}
use Rattle.counting.specs.Below.{count_below}
use Rattle.layout_rules.specs.Boxes.{child_count}
use Rattle.layout_rules.proofs.Ranges.{counted_by_range, counted_le}
use Rattle.layout_rules.proofs.times_in.Goals as goal

pub returns : goal.returns
returns c =
    let a = c.args in
    let list = a.list.now in
    let test : ℕ → Bool = λ j. eqb (get_or list (a.at + 1 + c.from-k.result + j) 0) a.c in
    let e : c.count.result ≡ count_below (child_count list a.at) test =
    count_from_yields_List c.filter.result c.count.result c.count.ensures.ran
    (YieldsList-from_filter _ test
    (YieldsList-from_range 0 (child_count list a.at) (child_count list a.at) (c.filter.ensures.source ∙ rw c.from-k.ensures) (omega arith))
    c.filter.ensures.closure (λ x b q d. search (rules, tests)))
    ∙ counted_by_range test (child_count list a.at) in
    let f = rw c.from-k.ensures at e in
    (f, omega (arith, e, counted_le test (child_count list a.at), c.type_inv.list a.at))
