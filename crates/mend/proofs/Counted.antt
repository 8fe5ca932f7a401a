-- The bytes that change, counted by a filter of the indexes.
-- Assumes nothing.
use Rattle.std.proofs.Common.{arith, ◌≡◌, ℕ, ◌+◌, Bool, not, List, length, eqb, get_or, ◌∙◌}
use Rattle.std.specs.List.{range_with_len, filter, count_by}
use Rattle.std.proofs.lemmas.List.Sums.{length-filter, sum_by-cons}
use mathlib.Core.Bool.{cond}
use Prim.Native.Nat.{zero, suc}
use native.Mathlib.Decide.{ℕ_discrete}
use borrow.Author.Tests.{eq-eqb, ne_eqb}
use lib.ListN.{length-append}
use Rattle.mend.specs.Changes.{changed}
use Rattle.mend.proofs.Changes.{stays, changes}

module _ (file : List ℕ) (mended : ℕ → ℕ) where
  abbrev pub differs : ℕ → Bool
  differs k = not (eqb (mended k) (get_or file k 0))

  one_more : (a : ℕ) → cond (differs a) 1 0 + length (changed file mended a) ≡ length (changed file mended (suc a))
  one_more a =
      elim (ℕ_discrete (mended a) (get_or file a 0)) [
        | yes e ↦ rw (stays file mended a e, eq-eqb (mended a) (get_or file a 0) e) (omega arith)
        | no d ↦ rw (changes file mended a d, length-append, ne_eqb (mended a) (get_or file a 0) d) (omega arith)
      ]

  counted_from : (a n : ℕ) → count_by differs (range_with_len a n) + length (changed file mended a) ≡ length (changed file mended (a + n))
  counted_from a zero = let e : a + 0 ≡ a = omega arith in rw e (omega arith)
  counted_from a (suc n) =
      let e : a + suc n ≡ suc a + n = omega arith in
      let s : a + 1 ≡ suc a = omega arith in
      let rest : count_by differs (range_with_len (a + 1) n) + length (changed file mended (suc a)) ≡ length (changed file mended (suc a + n)) = rw s (counted_from (suc a) n) in
      rw (e, sum_by-cons (λ x. cond (differs x) 1 0) a (range_with_len (a + 1) n)) (omega (arith, rest, one_more a))

  pub counted : (n : ℕ) → length (filter differs (range_with_len 0 n)) ≡ length (changed file mended n)
  counted n =
      let e : 0 + n ≡ n = omega arith in
      let c : count_by differs (range_with_len 0 n) + 0 ≡ length (changed file mended n) = rw e at (counted_from 0 n) in
      length-filter differs (range_with_len 0 n) ∙ omega (arith, c)
