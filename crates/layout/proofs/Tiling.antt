-- The theorem: on a panel of any size, every dot lies in exactly one leaf of a good list, and every leaf lies on the panel.
-- Assumes nothing.
use mathlib.Core.Path.{◌≡◌, refl, sym, ap, ◌∙◌}
use mathlib.Core.Bool.{Bool, true, false, cond, ◌&&◌}
use mathlib.Core.List.{List, [], ◌∷◌, ◌++◌, append-nil}
use mathlib.Core.Logic.{◌⊎◌, inl, inr, ⊎_elim}
use Prim.Native.Nat.{ℕ, zero, suc, ◌+◌, ◌-◌, ◌%◌, ◌≤◌, ◌<◌}
use native.Mathlib.Nat.{eq-zero-or-pos}
use native.Mathlib.Omega.{arith}
use borrow.Author.Tests.{ltb-true, leb-true, lt-ltb, le-leb, eq-eqb, eqb-true, not-false}
use native.Mathlib.Decide.{ℕ_discrete}
use Rattle.std.specs.Prelude.{Ok, Err}
use lib.Dec.{eqb}
use lib.ListN.{length, get_or, replicate, length-append, get_or-append}
use lib.Seq.{get_or-append_seam, take_at}
use Rattle.lists.proofs.Rules.{holds, keep, none, all_kept, None, past, by_cases}
use Rattle.layout_rules.specs.Boxes.{box_count, child_count, child_of, start_of, weight_of, list_good}
use Rattle.layout.specs.Places.{parent_of, parent_start, order_in, levels_above, weights_below, edge_of, width_part, height_part, part_of, place_of}
use Rattle.layout.specs.Tiling.{cover_rules, covers, times_covered, Inside, LeavesTile, Tiled}
use Rattle.layout.specs.declared.Rect.{Rect}
use Rattle.layout.specs.declared.Leaves.{Leaves}
use Rattle.layout.specs.Answer.{is_leaf, leaves_below, leaves_of, nowhere, leaves_with, Answer, cases, layout_of}
use Rattle.panel.specs.Panels.{width_of, rows_of}
use Rattle.counting.specs.Below.{sum_below}
use Rattle.counting.proofs.Below.{sum-le, sum_one}
use Rattle.layout_rules.proofs.Boxes.{good_some}
use Rattle.layout.proofs.Places.{parent_lt, levels_first, place_whole, place_inside, parent_box, order_lt, order-child, child_of_lem, child_later, child-box, child_parent, child-order, place_part}
use Rattle.layout.proofs.Tree.{Holding, leaf_some, leaf_one}
use Rattle.layout.proofs.Division.{edge_first, edge_last, edge_mono, Between, part_some, part_whole, part_one}

-- ---- a dot in a rectangle

pub record Within (x y : ℕ) (r : Rect) : Type 0 where
  pub left : r.x ≤ x
  pub right : x < r.x + r.width
  pub top : r.y ≤ y
  pub bottom : y < r.y + r.height

covers-within : (x y : ℕ) (r : Rect) → covers x y r ≡ true → Within x y r
unfolding covers
covers-within x y r e = record {
  left = leb-true r.x x (holds 0 (cover_rules x y r) e);
  right = ltb-true x (r.x + r.width) (holds 1 (cover_rules x y r) e);
  top = leb-true r.y y (holds 2 (cover_rules x y r) e);
  bottom = ltb-true y (r.y + r.height) (holds 3 (cover_rules x y r) e);
}

within-covers : (x y : ℕ) (r : Rect) → Within x y r → covers x y r ≡ true
unfolding covers
within-covers x y r w =
    all_kept {tests = cover_rules x y r}
    (keep (le-leb _ _ w.left) (keep (lt-ltb _ _ w.right) (keep (le-leb _ _ w.top) (keep (lt-ltb _ _ w.bottom) none))))

-- ---- the parts of a rectangle

module _ (list : List ℕ) (at levels : ℕ) (r : Rect) (x y : ℕ) (some : 0 < weights_below list at (child_count list at)) where
  abbrev edges : (size j : ℕ) → ℕ
  edges size j = edge_of size (weights_below list at j) (weights_below list at (child_count list at))

  first : (size : ℕ) → edges size 0 ≡ 0
  first size = edge_first size (weights_below list at (child_count list at))

  last : (size : ℕ) → edges size (child_count list at) ≡ size
  last size = edge_last size (weights_below list at (child_count list at)) some

  rise : (size i j : ℕ) → i ≤ j → edges size i ≤ edges size j
  rise size i j h =
      edge_mono size (weights_below list at i) (weights_below list at j) (weights_below list at (child_count list at)) some
      (sum-le i j (weight_of list at) h)

  -- the part of the j-th child, of the width or of the height
  abbrev part : (row : Bool) (j : ℕ) → Rect
  part row j =
      cond row
      (width_part r (weights_below list at j) (weights_below list at (j + 1)) (weights_below list at (child_count list at)))
      (height_part r (weights_below list at j) (weights_below list at (j + 1)) (weights_below list at (child_count list at)))

  across : (j : ℕ) → Within x y (part true j) → Between r.x (edges r.width j) (edges r.width (j + 1)) x
  across j w = record { from = w.left; to = w.right }

  down : (j : ℕ) → Within x y (part false j) → Between r.y (edges r.height j) (edges r.height (j + 1)) y
  down j w = record { from = w.top; to = w.bottom }

  -- a dot in the rectangle lies in a part, a dot in a part lies in the rectangle, and a dot lies in one part only
  within_some : Within x y r → ((j : ℕ) × (j < child_count list at) × Within x y (part_of list at levels r j))
  unfolding part_of
  within_some w = pick (eqb (levels % 2) 0) where
    pick : (row : Bool) → ((j : ℕ) × (j < child_count list at) × Within x y (part row j))
    pick true =
        let s = part_some r.x r.width (child_count list at) x (edges r.width) (first r.width) (last r.width) (rise r.width)
        w.left w.right in
        (s.0, s.1, record { left = s.2.from; right = s.2.to; top = w.top; bottom = w.bottom })
    pick false =
        let s = part_some r.y r.height (child_count list at) y (edges r.height) (first r.height) (last r.height) (rise r.height)
        w.top w.bottom in
        (s.0, s.1, record { left = w.left; right = w.right; top = s.2.from; bottom = s.2.to })

  within-whole : (j : ℕ) → j < child_count list at → Within x y (part_of list at levels r j) → Within x y r
  unfolding part_of
  within-whole j h = pick (eqb (levels % 2) 0) where
    pick : (row : Bool) → Within x y (part row j) → Within x y r
    pick true w =
        let s = part_whole r.x r.width (child_count list at) x (edges r.width) (first r.width) (last r.width) (rise r.width)
        j h (across j w) in
        record { left = s.0; right = s.1; top = w.top; bottom = w.bottom }
    pick false w =
        let s = part_whole r.y r.height (child_count list at) y (edges r.height) (first r.height) (last r.height) (rise r.height)
        j h (down j w) in
        record { left = w.left; right = w.right; top = s.0; bottom = s.1 }

  within_one : (i j : ℕ) → Within x y (part_of list at levels r i) → Within x y (part_of list at levels r j) → i ≡ j
  unfolding part_of
  within_one i j = pick (eqb (levels % 2) 0) where
    pick : (row : Bool) → Within x y (part row i) → Within x y (part row j) → i ≡ j
    pick true v w =
        part_one r.x r.width (child_count list at) x (edges r.width) (first r.width) (last r.width) (rise r.width)
        i j (across i v) (across j w)
    pick false v w =
        part_one r.y r.height (child_count list at) y (edges r.height) (first r.height) (last r.height) (rise r.height)
        i j (down i v) (down j w)

-- ---- the boxes that hold a dot

module _ (list : List ℕ) (good : list_good list ≡ true) (X Y x y : ℕ) where
  abbrev Holds : ℕ → Type 0
  Holds c = Within x y (place_of list X Y c)

  -- a box with a child has some weight
  weighty : (i j : ℕ) → i < box_count list → j < child_count list (start_of list i)
      → 0 < weights_below list (start_of list i) (child_count list (start_of list i))
  weighty i j h l = let k = child_of_lem list good i j h l in omega (arith, k.grow, k.high)

  -- a box that holds the dot is a leaf, or one of its children holds it
  holds-down : (i : ℕ) → i < box_count list → Holds i
      → (is_leaf list i ≡ true) ⊎ ((c : ℕ) × (i < c) × (c < box_count list) × Holds c)
  holds-down i h w =
      let at : ℕ = start_of list i in
      ⊎_elim
      (λ (e : child_count list at ≡ 0). inl (eq-eqb (child_count list at) 0 e))
      (λ (some : 0 < child_count list at).
      let s = within_some list at (levels_above list i) (place_of list X Y i) x y (weighty i 0 h some) w in
      let c : ℕ = child_of list at s.0 in
      let later : i < c = child_later list good i s.0 c h s.1 refl in
      inr (
        c,
        later,
        child-box list good i s.0 c h s.1 refl,
        rw (place_part list X Y c (omega arith), child_parent list good i s.0 c h s.1 refl, child-order list good i s.0 c h s.1 refl) s.2,
      ))
      (eq-zero-or-pos (child_count list at))

  module _ (c : ℕ) (some : 0 < c) (h : c < box_count list) (w : Holds c) where
    parent_weighty : 0 < weights_below list (parent_start list c) (child_count list (parent_start list c))
    parent_weighty =
        weighty (parent_of list c) (order_in list c (parent_start list c)) (parent_box list good c some h) (order_lt list good c some h)

    holds_up : Holds (parent_of list c)
    holds_up =
        within-whole list (parent_start list c) (levels_above list (parent_of list c)) (place_of list X Y (parent_of list c)) x y parent_weighty
        (order_in list c (parent_start list c)) (order_lt list good c some h) (rw (place_part list X Y c some) at w)

  -- two children of one box that hold the dot have one order, so they are one
  holds_same : (c d : ℕ) → 0 < c → 0 < d → c < box_count list → d < box_count list → parent_of list c ≡ parent_of list d
      → Holds c → Holds d → c ≡ d
  holds_same c d p q h l e v w =
      let at : ℕ = parent_start list d in
      let order : order_in list c at ≡ order_in list d at =
      within_one list at (levels_above list (parent_of list d)) (place_of list X Y (parent_of list d)) x y (parent_weighty d q l w)
      (order_in list c at) (order_in list d at) (rw (place_part list X Y c p, e) at v) (rw (place_part list X Y d q) at w) in
      sym (rw e at (order-child list good c p h)) ∙ ap (child_of list at) order ∙ order-child list good d q l

  leaf_childless : (c : ℕ) → 0 < c → c < box_count list → is_leaf list (parent_of list c) ≡ true → ⊥
  leaf_childless c p h e = omega (arith, order_lt list good c p h, eqb-true (child_count list (parent_start list c)) 0 e)

  holding : x < X → y < Y → Holding (box_count list) (parent_of list) (λ c. is_leaf list c ≡ true) Holds
  holding h l = record {
    some = good_some list good;
    earlier = parent_lt list;
    root = rw (place_whole list X Y 0 (levels_first list)) (record { left = omega arith; right = omega arith; top = omega arith; bottom = omega arith });
    down = holds-down;
    up = holds_up;
    same = holds_same;
    childless = leaf_childless;
  }

-- ---- counting

module _ (x y : ℕ) where
  times-append : (left right : List Rect) → times_covered x y (left ++ right) ≡ times_covered x y left + times_covered x y right
  times-append [] right = omega arith
  times-append (r ∷ left) right = rw (times-append left right) (omega arith)

  module _ (list : List ℕ) (X Y : ℕ) where
    -- a leaf that holds the dot counts for 1, any other box for 0
    abbrev counts : ℕ → ℕ
    counts c = cond (is_leaf list c && covers x y (place_of list X Y c)) 1 0

    times_below : (n : ℕ) → times_covered x y (leaves_below list X Y n) ≡ sum_below n counts
    times_below zero = refl
    times_below (suc n) =
        times-append (leaves_below list X Y n) (cond (is_leaf list n) (place_of list X Y n ∷ []) [])
        ∙ rw (times_below n) (ap (λ (m : ℕ). sum_below n counts + m) (last (is_leaf list n))) where
          last : (t : Bool) → times_covered x y (cond t (place_of list X Y n ∷ []) []) ≡ cond (t && covers x y (place_of list X Y n)) 1 0
          last true = omega arith
          last false = refl

    once : list_good list ≡ true → x < X → y < Y → times_covered x y (leaves_of list X Y) ≡ 1
    once good h l =
        let t = holding list good X Y x y h l in
        let s = leaf_some (box_count list) (parent_of list) (λ c. is_leaf list c ≡ true) (Holds list good X Y x y) t in
        let one = leaf_one (box_count list) (parent_of list) (λ c. is_leaf list c ≡ true) (Holds list good X Y x y) t in
        let here : counts s.0 ≡ 1 = rw (s.2, within-covers x y (place_of list X Y s.0) s.3) in
        times_below (box_count list)
        ∙ sum_one (box_count list) counts s.0 s.1 here
        (λ j m d.
        other (is_leaf list j) (covers x y (place_of list X Y j))
        (λ leaf cover. d (one j s.0 m s.1 leaf s.2 (covers-within x y (place_of list X Y j) cover) s.3))) where
          other : (p q : Bool) → (p ≡ true → q ≡ true → ⊥) → ◌≡◌ {A = ℕ} (cond (p && q) 1 0) 0
          other true true f = absurd (f refl refl)
          other true false f = refl
          other false q f = refl

-- ---- the theorem

-- what holds of the place of every leaf holds of every leaf
inside-append : (X Y : ℕ) (rects : List Rect) (r : Rect) → ((k : ℕ) → k < length rects → Inside X Y (get_or rects k nowhere)) → Inside X Y r
    → (k : ℕ) → k < length (rects ++ (r ∷ [])) → Inside X Y (get_or (rects ++ (r ∷ [])) k nowhere)
inside-append X Y rects r before last k h =
    elim (ℕ_discrete k (length rects)) [
      | yes e ↦ rw (e, get_or-append_seam rects r [] nowhere) last
      | no d ↦ let l : k < length rects = omega (arith, rw length-append at h) in
          rw (get_or-append rects (r ∷ []) nowhere k l) (before k l)
    ]

leaves_inside : (list : List ℕ) → list_good list ≡ true → (X Y n : ℕ) → n ≤ box_count list
    → (k : ℕ) → k < length (leaves_below list X Y n) → Inside X Y (get_or (leaves_below list X Y n) k nowhere)
leaves_inside list good X Y zero h k l = absurd (omega arith)
leaves_inside list good X Y (suc n) h k l =
    last (is_leaf list n) (leaves_inside list good X Y n (omega arith)) (place_inside list good X Y n h) k l where
      last : (t : Bool) → ((k : ℕ) → k < length (leaves_below list X Y n) → Inside X Y (get_or (leaves_below list X Y n) k nowhere))
          → Inside X Y (place_of list X Y n)
          → (k : ℕ) → k < length (leaves_below list X Y n ++ cond t (place_of list X Y n ∷ []) [])
          → Inside X Y (get_or (leaves_below list X Y n ++ cond t (place_of list X Y n ∷ []) []) k nowhere)
      last true before own = inside-append X Y (leaves_below list X Y n) (place_of list X Y n) before own
      last false before own = rw append-nil before

-- every dot lies in exactly one leaf, and every leaf lies on the panel
pub leaves_tile : LeavesTile
leaves_tile list good X Y = record {
  once = λ x y h l. once x y list X Y good h l;
  within = leaves_inside list good X Y (box_count list) (omega arith);
}

kept : (panel : ℕ) (list : List ℕ) → None (cases panel list) → list_good list ≡ true
kept panel list (past p (past good rest)) = not-false (list_good list) good

-- what an accepted call was given and gives
pub accepted : (panel : ℕ) (list : List ℕ) (leaves : Leaves) → layout_of panel list ≡ Ok leaves
    → ((list_good list ≡ true) × (leaves ≡ leaves_with (leaves_of list (width_of panel) (rows_of panel))))
unfolding layout_of
accepted panel list leaves =
    by_cases (λ (answer : Answer). answer ≡ Ok leaves → ((list_good list ≡ true) × (leaves ≡ leaves_with (leaves_of list (width_of panel) (rows_of panel)))))
    (cases panel list) (λ number. Err number) (Ok (leaves_with (leaves_of list (width_of panel) (rows_of panel)))) refl
    (λ number e q. absurd (cc)) (λ free q. (kept panel list free, (cc)))

-- its leaves tile the panel
pub layout_tiles : (panel : ℕ) (list : List ℕ) → Tiled panel (layout_of panel list)
unfolding layout_of
layout_tiles panel list =
    let rects : List Rect = leaves_of list (width_of panel) (rows_of panel) in
    by_cases (Tiled panel)
    (cases panel list) (λ number. Err number) (Ok (leaves_with rects)) refl
    (λ number e. tt)
    (λ free.
    rw (take_at rects (replicate (64 - length rects) nowhere) (length rects) refl)
    (leaves_tile list (kept panel list free) (width_of panel) (rows_of panel)))
