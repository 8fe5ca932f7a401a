-- What `all` answers over a range, against a test of the numbers below a bound.
-- Assumes nothing.
use Rattle.std.proofs.Common.{arith, ◌≡◌, ℕ, ◌+◌, ◌<◌, Bool, true, false, length, sym, MatchBool, ◌∙◌}
use Rattle.std.specs.List.{range_with_len, AllWithin, HoldsAt, filter, count_by}
use Rattle.std.proofs.lemmas.List.Sums.{length-filter, sum_by-cons}
use Rattle.counting.specs.Below.{count_below}
use mathlib.Core.Bool.{cond}
use Prim.Native.Nat.{zero, suc, ◌≤◌}
use Rattle.std.proofs.lemmas.List.FromFn.{length-range_with_len, get_or-range_with_len}
use Rattle.lists.specs.Rules.{all_below}
use Rattle.lists.proofs.Rules.{below_fails}
use Rattle.counting.proofs.Below.{all_each}

pub below_by_range : (r : Bool) (a n : ℕ) (test : ℕ → Bool) (Yes No : ℕ → Type 0)
    → ((k : ℕ) → Yes (a + k) → test k ≡ true) → ((k : ℕ) → No (a + k) → test k ≡ false)
    → MatchBool r (AllWithin Yes (range_with_len a n) 0 (length (range_with_len a n)))
    ((k : ℕ) × (k < length (range_with_len a n)) × HoldsAt No (range_with_len a n) k)
    → r ≡ all_below n test
below_by_range true a n test Yes No hit miss all =
    sym (all_each n test (λ k h. hit k (rw (get_or-range_with_len a n k 0 h) at (all k 0 (omega arith) (rw length-range_with_len h)))))
below_by_range false a n test Yes No hit miss some =
    let h : some.0 < n = rw length-range_with_len at some.1 in
    sym (below_fails n test some.0 h (miss some.0 (rw (get_or-range_with_len a n some.0 0 h) at (some.2 0))))

-- how many numbers of a range pass a test, and how many before it
counted_from : (test : ℕ → Bool) (a n : ℕ) → count_by test (range_with_len a n) + count_below a test ≡ count_below (a + n) test
counted_from test a zero = let e : a + 0 ≡ a = omega arith in rw e (omega arith)
counted_from test a (suc n) =
    let e : a + suc n ≡ suc a + n = omega arith in
    let s : a + 1 ≡ suc a = omega arith in
    let rest : count_by test (range_with_len (a + 1) n) + count_below (suc a) test ≡ count_below (suc a + n) test = rw s (counted_from test (suc a) n) in
    rw (e, sum_by-cons (λ x. cond (test x) 1 0) a (range_with_len (a + 1) n)) (omega (arith, rest))

-- what `count` answers after a filter of a range
pub counted_by_range : (test : ℕ → Bool) (n : ℕ) → length (filter test (range_with_len 0 n)) ≡ count_below n test
counted_by_range test n =
    let e : 0 + n ≡ n = omega arith in
    let c : count_by test (range_with_len 0 n) + 0 ≡ count_below n test = rw e at (counted_from test 0 n) in
    length-filter test (range_with_len 0 n) ∙ omega (arith, c)

pub counted_le : (test : ℕ → Bool) (n : ℕ) → count_below n test ≤ n
counted_le test zero = omega arith
counted_le test (suc n) = bit (test n) (counted_le test n) where
  bit : (t : Bool) → count_below n test ≤ n → count_below n test + cond t 1 0 ≤ suc n
  bit true h = omega arith
  bit false h = omega arith
