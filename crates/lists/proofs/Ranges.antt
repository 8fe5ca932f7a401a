-- What `all` answers over a range, against a test of the numbers below a bound.
-- Assumes nothing.
use Rattle.std.proofs.Common.{arith, ◌≡◌, ℕ, ◌+◌, ◌<◌, Bool, true, false, length, sym, MatchBool}
use Rattle.std.specs.List.{range_with_len, AllWithin, HoldsAt}
use Rattle.std.proofs.lemmas.List.FromFn.{length-range_with_len, get_or-range_with_len}
use mathlib.Core.Path.{refl}
use Prim.Native.Nat.{zero, suc}
use Rattle.lists.specs.Rules.{all_below}
use Rattle.lists.proofs.Rules.{below_fails}

-- a test that each number passes
below_each : (n : ℕ) (test : ℕ → Bool) → ((k : ℕ) → k < n → test k ≡ true) → all_below n test ≡ true
below_each zero test e = refl
below_each (suc n) test e = rw (e n (omega arith), below_each n test (λ k h. e k (omega arith)))

pub below_by_range : (r : Bool) (a n : ℕ) (test : ℕ → Bool) (Yes No : ℕ → Type 0)
    → ((k : ℕ) → Yes (a + k) → test k ≡ true) → ((k : ℕ) → No (a + k) → test k ≡ false)
    → MatchBool r (AllWithin Yes (range_with_len a n) 0 (length (range_with_len a n)))
    ((k : ℕ) × (k < length (range_with_len a n)) × HoldsAt No (range_with_len a n) k)
    → r ≡ all_below n test
below_by_range true a n test Yes No hit miss all =
    sym (below_each n test (λ k h. hit k (rw (get_or-range_with_len a n k 0 h) at (all k 0 (omega arith) (rw length-range_with_len h)))))
below_by_range false a n test Yes No hit miss some =
    let h : some.0 < n = rw length-range_with_len at some.1 in
    sym (below_fails n test some.0 h (miss some.0 (rw (get_or-range_with_len a n some.0 0 h) at (some.2 0))))
