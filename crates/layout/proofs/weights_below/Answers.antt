-- A sum over a range, of bytes.
-- Assumes nothing.
use Rattle.std.proofs.Common.{rules, tests, arith, ◌≡◌, ◌+◌, ◌*◌, ◌≤◌, ◌∙◌, ℕ, zero, suc, ap, refl, sum}
use mathlib.Core.List.{map}
use Rattle.std.specs.List.{range_with_len}
use Rattle.std.proofs.lemmas.List.FromFn.{sum_by-map-range_with_len_more}
use Rattle.std.proofs.lemmas.Iterator.{YieldsList-from_range, YieldsList-from_map}
use Rattle.std.proofs.lemmas.Iterator.Consumers.{sum_from_yields_List, fits_from_yields_list}
use Rattle.counting.specs.Below.{sum_below}
use Rattle.counting.proofs.Below.{sum-most}
use Rattle.layout_rules.specs.Boxes.{weight_of}
use Rattle.layout.proofs.weights_below.Goals as goal

sum_of_range : (f : ℕ → ℕ) (n : ℕ) → sum (map f (range_with_len 0 n)) ≡ sum_below n f
sum_of_range f zero = refl
sum_of_range f (suc n) =
    let s : n + 1 ≡ suc n = omega arith in
    rw s at (sum_by-map-range_with_len_more (λ x. x) f 0 n n (omega arith)) ∙ ap (λ (m : ℕ). m + f n) (sum_of_range f n)

pub sum-requires-clause-fits : goal.sum-requires-clause-fits
sum-requires-clause-fits c =
    let a = c.args in
    let small : sum_below a.n (weight_of a.list.now a.at) ≤ a.n * 255 =
    sum-most a.n 255 (weight_of a.list.now a.at) (λ k. omega (arith, c.type_inv.list (a.at + 1 + k))) in
    fits_from_yields_list c.map.result _
    (YieldsList-from_map _ (weight_of a.list.now a.at) (YieldsList-from_range 0 a.n a.n c.map.ensures.source (omega arith)) c.map.ensures.closure (λ x r q k. search (rules, tests)))
    (rw (sum_of_range (weight_of a.list.now a.at) a.n) (omega (arith, small)))

pub returns : goal.returns
returns c =
    let a = c.args in
    let small : sum_below a.n (weight_of a.list.now a.at) ≤ a.n * 255 =
    sum-most a.n 255 (weight_of a.list.now a.at) (λ k. omega (arith, c.type_inv.list (a.at + 1 + k))) in
    let e : c.sum.result ≡ sum_below a.n (weight_of a.list.now a.at) =
    sum_from_yields_List c.map.result c.sum.result c.sum.ensures.ran
    (YieldsList-from_map _ (weight_of a.list.now a.at) (YieldsList-from_range 0 a.n a.n c.map.ensures.source (omega arith)) c.map.ensures.closure (λ x r q k. search (rules, tests)))
    ∙ sum_of_range (weight_of a.list.now a.at) a.n in
    (e, omega (arith, e, small))
