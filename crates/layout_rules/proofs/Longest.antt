-- A good list has at most 191 bytes: every box but the first is a child once, so all boxes together have one child less than there are
-- boxes.
-- Assumes nothing.
use mathlib.Core.Path.{◌≡◌, refl, sym, ◌∙◌}
use mathlib.Core.Bool.{true, cond}
use mathlib.Core.List.{List}
use Prim.Native.Nat.{ℕ, zero, suc, ◌+◌, ◌-◌, ◌*◌, ◌≤◌, ◌<◌}
use native.Mathlib.Omega.{arith}
use borrow.Author.Tests.{eq-eqb, ne_eqb}
use lib.ListN.{length}
use Rattle.counting.specs.Below.{sum_below}
use Rattle.counting.proofs.Below.{sum_none, sum_one, sum_cong, sum_swap, sum_ones}
use Rattle.layout_rules.specs.Boxes.{box_count, child_count, child_of, start_of, is_child, times_in, times_child, list_good}
use Rattle.layout_rules.proofs.Boxes.{good_framed, good_later, good-number, good-once, good_some}

-- a box takes a byte, and two for each child
start-sum : (list : List ℕ) (n : ℕ) → start_of list n ≡ 1 + n + 2 * sum_below n (λ i. child_count list (start_of list i))
start-sum list zero = refl
start-sum list (suc n) = omega (arith, start-sum list n)

module _ (list : List ℕ) (good : list_good list ≡ true) where
  abbrev bit : (c at j : ℕ) → ℕ
  bit c at j = cond (is_child list c at j) 1 0

  -- each child of a box is one box of the list
  children : (i : ℕ) → i < box_count list → sum_below (box_count list) (λ c. times_in list c (start_of list i)) ≡ child_count list (start_of list i)
  children i h =
      let at : ℕ = start_of list i in
      sum_swap (box_count list) (child_count list at) (λ c j. bit c at j)
      ∙ sum_cong (child_count list at) (λ j. sum_below (box_count list) (λ c. bit c at j)) (λ j. 1)
      (λ j l.
      sum_one (box_count list) (λ c. bit c at j) (child_of list at j) (good-number list good i h j l)
      (rw (eq-eqb (child_of list at j) (child_of list at j) refl))
      (λ c m d. rw (ne_eqb (child_of list at j) c (λ e. d (sym e)))))
      ∙ sum_ones (child_count list at)

  -- the first box is no child, and every other is one
  first_none : times_child list 0 ≡ 0
  first_none =
      sum_none (box_count list) (λ i. times_in list 0 (start_of list i))
      (λ i h.
      sum_none (child_count list (start_of list i)) (bit 0 (start_of list i))
      (λ j l.
      rw (ne_eqb (child_of list (start_of list i) j) 0 (λ e. absurd (omega (arith, good_later list good i h j l))))))

  once_each : (m : ℕ) → m ≤ box_count list → sum_below m (times_child list) ≡ m - 1
  once_each zero h = refl
  once_each (suc zero) h = omega (arith, first_none)
  once_each (suc (suc m)) h = omega (arith, once_each (suc m) (omega arith), good-once list good (suc m) (omega arith) h)

  all_children : sum_below (box_count list) (λ i. child_count list (start_of list i)) ≡ box_count list - 1
  all_children =
      sum_cong (box_count list) (λ i. child_count list (start_of list i)) (λ i. sum_below (box_count list) (λ c. times_in list c (start_of list i)))
      (λ i h. sym (children i h))
      ∙ sum_swap (box_count list) (box_count list) (λ i c. times_in list c (start_of list i))
      ∙ once_each (box_count list) (omega arith)

  pub good_short : length list ≤ 191
  good_short =
      let f = good_framed list good in
      omega (arith, f.few, f.whole, start-sum list (box_count list), all_children, good_some list good)
