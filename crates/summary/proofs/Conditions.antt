-- Laws of the conditions of 13: what the tests say, that a fresh count keeps them, and that every place does after each change of one.
-- Assumes nothing.
use Rattle.std.proofs.Math.Bool.{and_comm}
use Rattle.std.specs.List.{list_all}
use Rattle.std.proofs.lemmas.List.Folds.{list_all_more}
use mathlib.Core.Path.{refl, ◌≡◌, ◌∙◌}
use mathlib.Core.Bool.{Bool, true, cond, not}
use mathlib.Core.List.{List, [], ◌∷◌}
use Prim.Native.Nat.{ℕ, zero, suc, ◌+◌, ◌*◌, ◌≤◌, ◌<◌}
use native.Mathlib.Nat.{mul_comm}
use native.Mathlib.Numerals.{add-one}
use native.Mathlib.Decide.{ℕ_discrete}
use native.Mathlib.Omega.{arith}
use lib.Dec.{eqb}
use lib.ListN.{length, take, get_or, set, replicate, get_or-replicate}
use lib.Seq.{get_or-set_other}
use borrow.Author.Tests.{le-leb, lt-ltb}
use Rattle.lists.specs.Rules.{all_below}
use Rattle.lists.proofs.Rules.{below_all, by_test, none, keep, all_kept}
use Rattle.panel.specs.Dots.{dot}
use Rattle.counting.specs.Below.{first_below, last_below}
use Rattle.counting.proofs.Below.{all_each, sum-most}
use Rattle.summary.specs.Summaries.{black_in_row, black_dots, has_black, summary_of, empty_summary, given}
use Rattle.summary.specs.Conditions.{span_good, summary_good, summaries_good}
use Rattle.summary.specs.declared.Span.{Span}
use Rattle.std.proofs.Common.{Option, None}
use Rattle.summary.specs.declared.Summary.{Summary}
use Rattle.summary.proofs.Bytes.{one_le}
use Rattle.summary.proofs.Rows.{rows-between}

-- ---- one summary

-- a fresh count keeps the conditions
module _ (b h : ℕ) (picture : List ℕ) where
  row_most : (y : ℕ) → black_in_row b picture y ≤ 8 * b
  unfolding black_in_row
  row_most y =
      omega (arith, sum-most (8 * b) 1 (λ x. cond (eqb (dot b picture x y) 0) 1 0) (λ x. one_le (eqb (dot b picture x y) 0)))

  black_most : black_dots b h picture ≤ 8 * b * h
  unfolding black_dots
  black_most = rw (mul_comm (8 * b) h) (sum-most h (8 * b) (black_in_row b picture) row_most)

  pub fresh-good : summary_good b h (summary_of b h picture) ≡ true
  unfolding summary_of summary_good
  fresh-good =
      let black = black_dots b h picture in
      let first = first_below h (has_black b picture) in
      let last = last_below h (has_black b picture) in
      rw (le-leb black (8 * b * h) black_most)
      (by_test (λ (span : Option Span). span_good h black span ≡ true) (eqb black 0) None (given first last) (λ none. none)
      (λ some.
      let rows = rows-between b h picture some in
      let counted : not (eqb black 0) ≡ true = rw some in
      all_kept (keep counted (keep (le-leb first last rows.ordered) (keep (lt-ltb last h rows.within) none)))))

-- ---- every place

module _ (b h : ℕ) (summaries : List Summary) where
  abbrev pub good_at : ℕ → Bool
  good_at slot = summary_good b h (get_or summaries slot empty_summary)

  -- the conditions are asked of the first places
  good_front : (n : ℕ) → n ≤ length summaries → list_all (summary_good b h) (take n summaries) ≡ all_below n good_at
  good_front zero l = refl
  good_front (suc n) l =
      rw add-one at (list_all_more (summary_good b h) summaries n empty_summary (omega arith))
      ∙ rw (good_front n (omega arith)) (and_comm (all_below n good_at) (good_at n))

  pub all_good : (n : ℕ) → n < length summaries → list_all (summary_good b h) (take (n + 1) summaries) ≡ summaries_good b h n summaries
  unfolding summaries_good
  all_good n l = rw add-one (good_front (suc n) (omega arith))

module _ (b h n : ℕ) where
  pub good_empty : summary_good b h empty_summary ≡ true
  unfolding summary_good
  good_empty = rw (le-leb 0 (8 * b * h) (omega arith))

  -- a place that was given a summary; one that is not there counts as empty
  place_good : (summaries : List Summary) (slot : ℕ) (summary : Summary) → summary_good b h summary ≡ true
      → good_at b h (set summaries slot summary) slot ≡ true
  place_good [] slot summary e = good_empty
  place_good (first ∷ rest) zero summary e = e
  place_good (first ∷ rest) (suc slot) summary e = place_good rest slot summary e

  -- an opening's places
  pub good_opened : n ≤ 7 → summaries_good b h n (replicate 8 empty_summary) ≡ true
  unfolding summaries_good
  good_opened few =
      all_each (suc n) (good_at b h (replicate 8 empty_summary))
      (λ slot l. rw (get_or-replicate 8 slot empty_summary empty_summary (omega arith)) good_empty)

  module _ (summaries : List Summary) (good : summaries_good b h n summaries ≡ true) where
    pub good_each : (slot : ℕ) → slot ≤ n → good_at b h summaries slot ≡ true
    unfolding summaries_good
    good_each slot l = below_all (suc n) (good_at b h summaries) good slot (omega arith)

    -- another summary at one of them, which keeps the conditions
    pub good_with : (slot : ℕ) (summary : Summary) → summary_good b h summary ≡ true
        → summaries_good b h n (set summaries slot summary) ≡ true
    unfolding summaries_good
    good_with slot summary e =
        all_each (suc n) (good_at b h (set summaries slot summary))
        (λ t l.
        elim (ℕ_discrete t slot) [
          | yes q ↦ rw q (place_good summaries slot summary e)
          | no d ↦ rw (get_or-set_other summaries slot t summary empty_summary d) (good_each t (omega arith))
        ])

    -- a fresh count, that of a white slot, and that of a slot that is copied to slot 0
    pub good_written : (slot : ℕ) (picture : List ℕ) → summaries_good b h n (set summaries slot (summary_of b h picture)) ≡ true
    good_written slot picture = good_with slot (summary_of b h picture) (fresh-good b h picture)

    pub good_whitened : (slot : ℕ) → summaries_good b h n (set summaries slot empty_summary) ≡ true
    good_whitened slot = good_with slot empty_summary good_empty

    pub good_copied : (slot : ℕ) → slot ≤ n → summaries_good b h n (set summaries 0 (get_or summaries slot empty_summary)) ≡ true
    good_copied slot l = good_with 0 (get_or summaries slot empty_summary) (good_each slot l)
