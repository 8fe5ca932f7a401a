-- Laws of row and column layout: what the chart tells once a box is placed, and once its children are.
-- Assumes nothing.
use mathlib.Core.Path.{◌≡◌, refl, sym, ◌∙◌}
use mathlib.Core.Bool.{true, false}
use mathlib.Core.List.{List}
use mathlib.Core.Logic.{◌⊎◌, inl, inr, ⊎_elim}
use Prim.Native.Nat.{ℕ, ◌+◌, ◌-◌, ◌≤◌, ◌<◌}
use native.Mathlib.Decide.{ℕ_discrete}
use native.Mathlib.Omega.{arith}
use borrow.Author.Tests.{le-leb, lt-leb}
use lib.ListN.{length, set, length-set}
use lib.Seq.{get_or-set_same, get_or-set_other}
use Rattle.lists.proofs.Rules.{below_fails}
use Rattle.counting.proofs.Below.{all_each}
use Rattle.layout_rules.specs.Boxes.{box_count, child_count, child_of, start_of, list_good}
use Rattle.layout.specs.Places.{parent_of, order_in, levels_above, level_good, levels_good, part_of, place_of}
use Rattle.layout.specs.Answer.{nowhere}
use Rattle.layout.specs.Facts.{Under, self, child, Told, Standing, Placed, TooDeep, AllPlaced}
use Rattle.layout.specs.declared.Rect.{Rect}
use Rattle.refusal.specs.declared.Refusal.TheVariants.{Levels}
use Rattle.layout_rules.proofs.Boxes.{good_framed}
use Rattle.layout.proofs.Places.{by_parent, levels_first, levels_up, parent_box, order_lt, order-child, child_later, child-box, child_parent, child-order, child_of_lem, place_whole, place_part, part_inside}

-- ---- levels

level-good : (list : List ℕ) (c : ℕ) → levels_above list c < 6 → level_good list c ≡ true
level-good list c h = le-leb (levels_above list c + 1) 6 (omega arith)

level-deep : (list : List ℕ) (c : ℕ) → 6 ≤ levels_above list c → level_good list c ≡ false
level-deep list c h = lt-leb (levels_above list c + 1) 6 (omega arith)

-- every box is told of, so none lies too deep
levels_all : (list : List ℕ) → ((c : ℕ) → c < box_count list → level_good list c ≡ true) → levels_good list ≡ true
unfolding levels_good
levels_all list each = all_each (box_count list) (level_good list) each

levels_broken : (list : List ℕ) (c : ℕ) → c < box_count list → level_good list c ≡ false → levels_good list ≡ false
unfolding levels_good
levels_broken list c h e = below_fails (box_count list) (level_good list) c h e

-- ---- boxes under a box

-- every box stands under the first
under_first : (list : List ℕ) (d : ℕ) → d < box_count list → Under list 0 d
under_first list = by_parent list (Under list 0) self (λ d some h u. child some u)

-- a box under box c is that box, or stands under one of its children
under_split : (list : List ℕ) → list_good list ≡ true → (c d : ℕ) → d < box_count list → Under list c d
    → (d ≡ c) ⊎ ((i : ℕ) × (i < child_count list (start_of list c)) × Under list (child_of list (start_of list c) i) d)
under_split list good c d h self = inl refl
under_split list good c d h (child some u) =
    ⊎_elim
    (λ (e : parent_of list d ≡ c).
    inr (
      order_in list d (start_of list c),
      rw e at (order_lt list good d some h),
      rw (rw e at (order-child list good d some h)) self,
    ))
    (λ r. inr (r.0, r.1, child some r.2))
    (under_split list good c (parent_of list d) (parent_box list good d some h) u)

-- ---- a box without levels remaining

pub too_deep : (list : List ℕ) (c : ℕ) (place : Rect) (before : List Rect) → Standing list c 0 place before → TooDeep list Levels
too_deep list c place before s =
    record { is = refl; deep = levels_broken list c s.box (level-deep list c (omega (arith, s.level))) }

-- ---- a box and its children

-- the boxes under the first j children of box c are placed, besides what was told at the start
pub record Divided (list : List ℕ) (c : ℕ) (place : Rect) (start : List Rect) (j : ℕ) (chart : List Rect) : Type 0 where
  pub whole : length chart ≡ 64
  pub kept : (X Y d : ℕ) → place ≡ place_of list X Y c → Told list X Y start d → Told list X Y chart d
  pub told : (X Y d i : ℕ) → place ≡ place_of list X Y c → d < box_count list → i < j → Under list (child_of list (start_of list c) i) d
      → Told list X Y chart d

module _ (list : List ℕ) (c levels : ℕ) (place : Rect) (before : List Rect) (s : Standing list c levels place before) (some : 0 < levels) where
  -- there is a place for box c
  pub room : (c < 64) × (length before ≡ 64)
  room = (omega (arith, s.box, (good_framed list s.good).few), s.whole)

  -- no child yet
  pub none_divided : Divided list c place (set before c place) 0 (set before c place)
  none_divided = record {
    whole = simp length-set s.whole;
    kept = λ X Y d e t. t;
    told = λ X Y d i e h l u. absurd (omega arith);
  }

  own_told : (X Y : ℕ) → place ≡ place_of list X Y c → Told list X Y (set before c place) c
  own_told X Y e = record {
    level = level-good list c (omega (arith, s.level));
    stands = get_or-set_same before c place nowhere (omega (arith, s.whole, room.0)) ∙ e;
  }

  still_told : (X Y d : ℕ) → place ≡ place_of list X Y c → Told list X Y before d → Told list X Y (set before c place) d
  still_told X Y d e t =
      elim (ℕ_discrete d c) [
        | yes q ↦ rw q (own_told X Y e)
        | no n ↦ record { level = t.level; stands = get_or-set_other before c d place nowhere n ∙ t.stands }
      ]

  -- all children
  pub all_divided : (chart : List Rect) → Divided list c place (set before c place) (child_count list (start_of list c)) chart
      → Placed list c place before chart
  all_divided chart v = record {
    whole = v.whole;
    kept = λ X Y d e t. v.kept X Y d e (still_told X Y d e t);
    told = λ X Y d e h u.
        ⊎_elim
        (λ (q : d ≡ c). rw q (v.kept X Y c e (own_told X Y e)))
        (λ r. v.told X Y d r.0 e h r.1 r.2)
        (under_split list s.good c d h u);
  }

  -- the j-th child, and its part of box c
  module _ (j : ℕ) (h : j < child_count list (start_of list c)) (b : ℕ) (q : b ≡ child_of list (start_of list c) j) (part : Rect)
      (p : part ≡ part_of list (start_of list c) (levels_above list c) place j) where
    pub child_place : (X Y : ℕ) → place ≡ place_of list X Y c → part ≡ place_of list X Y b
    child_place X Y e =
        let later : c < b = child_later list s.good c j b s.box h (sym q) in
        p ∙ sym (place_part list X Y b (omega arith)
        ∙ rw (child_parent list s.good c j b s.box h (sym q), child-order list s.good c j b s.box h (sym q), ← e))

    module _ (start chart : List Rect) (v : Divided list c place start j chart) where
      pub child-stands : Standing list b (levels - 1) part chart
      child-stands =
          let later : c < b = child_later list s.good c j b s.box h (sym q) in
          let up = levels_up list b (omega arith) in
          let parent = child_parent list s.good c j b s.box h (sym q) in
          record {
            good = s.good;
            box = child-box list s.good c j b s.box h (sym q);
            level = omega (arith, s.level, rw parent at up);
            inside = rw p (part_inside list 264 176 (start_of list c) (levels_above list c) place j (child_of_lem list s.good c j s.box h) s.inside);
            whole = v.whole;
          }

      pub more_divided : (after : List Rect) → Placed list b part chart after → Divided list c place start (j + 1) after
      more_divided after r = record {
        whole = r.whole;
        kept = λ X Y d e t. r.kept X Y d (child_place X Y e) (v.kept X Y d e t);
        told = λ X Y d i e l m u.
            elim (ℕ_discrete i j) [
              | yes k ↦ r.told X Y d (child_place X Y e) l (rw q (rw k at u))
              | no n ↦ r.kept X Y d (child_place X Y e) (v.told X Y d i e l (omega arith) u)
            ];
      }

-- ---- the first box

pub all_placed_from : (list : List ℕ) → list_good list ≡ true → (X Y : ℕ) (before chart : List Rect)
    → Placed list 0 (record { x = 0; y = 0; width = X; height = Y }) before chart → AllPlaced list X Y chart
all_placed_from list good X Y before chart p = record {
  whole = p.whole;
  levels = levels_all list (λ c h. (told c h).level);
  stands = λ c h. (told c h).stands;
} where
  told : (c : ℕ) → c < box_count list → Told list X Y chart c
  told c h = p.told X Y c (sym (place_whole list X Y 0 (levels_first list))) h (under_first list c h)
