-- Laws of the list: where its boxes begin and end.
-- Assumes nothing.
use mathlib.Core.Path.{◌≡◌, refl, sym}
use mathlib.Core.Bool.{true, false}
use mathlib.Core.List.{List}
use mathlib.Core.Logic.{⊎_elim}
use Prim.Native.Nat.{ℕ, zero, suc, ◌+◌, ◌-◌, ◌≤◌, ◌<◌}
use native.Mathlib.Nat.{eq-or-lt_of_le}
use native.Mathlib.Omega.{arith}
use native.Mathlib.Numerals.{add-one}
use borrow.Author.Tests.{ne_eqb, le-leb, lt-leb, leb-true, eqb-true, ltb-true}
use lib.Dec.{eqb}
use lib.ListN.{length}
use Rattle.lists.specs.Rules.{all_below}
use Rattle.lists.proofs.Rules.{broken, none, keep, decides, holds, below_all}
use Rattle.layout_rules.specs.Boxes.{box_count, child_count, weight_of, child_of, next_box, start_of, child_rules, child_good, box_rules, box_good, times_child, child_once, list_rules, list_good}
use Rattle.layout_rules.specs.Facts.{Framed}

-- a box takes a byte or more
pub start-le : (list : List ℕ) (i n : ℕ) → i ≤ n → start_of list i + (n - i) ≤ start_of list n
start-le list i zero h = let e : i ≡ 0 = omega arith in rw e (omega arith)
start-le list i (suc n) h =
    ⊎_elim
    (λ (e : i ≡ suc n). rw e (omega arith))
    (λ (l : i < suc n). omega (arith, start-le list i n (omega arith)))
    (eq-or-lt_of_le h)

-- boxes that begin after the list's end, with some still to come, do not end with it
pub overrun : (list : List ℕ) (i n : ℕ) → i ≤ n → length list < start_of list i + (n - i)
    → false ≡ eqb (start_of list n) (length list)
overrun list i n h l = sym (ne_eqb (start_of list n) (length list) (λ e. absurd (omega (arith, start-le list i n h, e))))

pub next_start : (list : List ℕ) (i at : ℕ) → at ≡ start_of list i → next_box list at ≡ start_of list (i + 1)
next_start list i at e = rw (add-one i, e)

-- each box of a list that ends with its boxes lies in it
pub box-within : (list : List ℕ) → Framed list → (i at : ℕ) → i < box_count list → at ≡ start_of list i
    → next_box list at ≤ length list
box-within list f i at h e = rw e (omega (arith, start-le list (suc i) (box_count list) h, f.whole))

pub some_bytes : (list : List ℕ) → Framed list → 0 < length list
some_bytes list f = omega (arith, start-le list 0 (box_count list) (omega arith), f.whole)

-- ---- the rules

module _ (list : List ℕ) (i at : ℕ) (e : at ≡ start_of list i) where
  pub box-full : 8 < child_count list at → false ≡ box_good list i
  unfolding box_good
  box-full h = rw (← e) (sym (broken 0 (box_rules list i at) (lt-leb (child_count list at) 8 h)))

  pub box_few : child_count list at ≤ 8 → all_below (child_count list at) (child_good list i at) ≡ box_good list i
  unfolding box_good
  box_few few = rw (← e) (sym (decides 1 (box_rules list i at) (keep (le-leb _ _ few) (keep refl none))))

-- a list that ends with its boxes
pub frame : (list : List ℕ) → box_count list ≤ 64 → start_of list (box_count list) ≡ length list → Framed list
frame list few whole = record { few = few; whole = whole }

-- what a good list keeps
module _ (list : List ℕ) (good : list_good list ≡ true) where
  pub good_some : 0 < box_count list
  unfolding list_good
  good_some = leb-true 1 (box_count list) (holds 0 (list_rules list) good)

  pub good_framed : Framed list
  unfolding list_good
  good_framed =
      frame list (leb-true (box_count list) 64 (holds 1 (list_rules list) good))
      (eqb-true (start_of list (box_count list)) (length list) (holds 2 (list_rules list) good))

  pub good-box : (i : ℕ) → i < box_count list → box_good list i ≡ true
  unfolding list_good
  good-box i h = below_all (box_count list) (box_good list) (holds 3 (list_rules list) good) i h

  pub good-once : (c : ℕ) → 0 < c → c < box_count list → times_child list c ≡ 1
  unfolding list_good child_once
  good-once c some h =
      let e : c - 1 + 1 ≡ c = omega arith in
      let once : child_once list (c - 1) ≡ true =
      below_all (box_count list - 1) (child_once list) (holds 4 (list_rules list) good) (c - 1) (omega arith) in
      eqb-true (times_child list c) 1 (rw e at once)

  module _ (i : ℕ) (h : i < box_count list) where
    pub good-few : child_count list (start_of list i) ≤ 8
    unfolding box_good
    good-few = leb-true _ _ (holds 0 (box_rules list i (start_of list i)) (good-box i h))

    good-child : (j : ℕ) → j < child_count list (start_of list i) → child_good list i (start_of list i) j ≡ true
    unfolding box_good
    good-child j l =
        below_all (child_count list (start_of list i)) (child_good list i (start_of list i))
        (holds 1 (box_rules list i (start_of list i)) (good-box i h)) j l

    module _ (j : ℕ) (l : j < child_count list (start_of list i)) where
      pub good_weight : 1 ≤ weight_of list (start_of list i) j
      unfolding child_good
      good_weight = leb-true _ _ (holds 0 (child_rules list i (start_of list i) j) (good-child j l))

      pub good_later : i < child_of list (start_of list i) j
      unfolding child_good
      good_later = ltb-true _ _ (holds 2 (child_rules list i (start_of list i) j) (good-child j l))

      pub good-number : child_of list (start_of list i) j < box_count list
      unfolding child_good
      good-number = ltb-true _ _ (holds 3 (child_rules list i (start_of list i) j) (good-child j l))
