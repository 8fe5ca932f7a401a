-- Laws of the tree and of the places.
-- Assumes nothing.
use mathlib.Core.Path.{◌≡◌, refl, ap}
use mathlib.Core.Bool.{Bool, true, false, cond}
use mathlib.Core.List.{List}
use mathlib.Core.Logic.{⊎_elim}
use Prim.Native.Nat.{ℕ, zero, suc, ◌+◌, ◌-◌, ◌%◌, ◌≤◌, ◌<◌}
use native.Mathlib.Nat.{eq-zero-or-pos}
use native.Mathlib.Omega.{arith}
use native.Mathlib.Numerals.{add-one}
use borrow.Author.Tests.{lt-ltb, ltb-true, eq-eqb, eqb-true}
use Rattle.layout_rules.specs.Boxes.{box_count, child_count, weight_of, child_of, start_of, is_child, times_in, list_good}
use Rattle.layout.specs.Places.{is_parent, parent_of, parent_start, order_in, levels_within, levels_above, weights_below, edge_of, width_part, height_part, part_of, place_of}
use Rattle.layout.proofs.Division.{edge_le, edge_mono}
use Rattle.layout_rules.proofs.Boxes.{box-within, good_framed, good-few, good_weight, good-once, good_later, good-number}
use lib.Dec.{eqb}
use Rattle.counting.proofs.Below.{last_lt, last_true, sum-le, sum_some, sum_term, sum-once, bit_some, some_bit}
use Rattle.layout.specs.declared.Rect.{Rect}
use Rattle.layout.specs.declared.shares.Share.{Share}
use Rattle.layout.specs.Tiling.{Inside}
use Rattle.layout.specs.Facts.{ChildAt, ShareFound}

-- ---- the tree

pub parent_lt : (list : List ℕ) (c : ℕ) → 0 < c → parent_of list c < c
unfolding parent_of
parent_lt list c h = last_lt c _ h

-- what holds of the first box, and of each other where it holds of its parent, holds of every box
pub by_parent : (list : List ℕ) (P : ℕ → Type 0) → P 0 → ((c : ℕ) → 0 < c → c < box_count list → P (parent_of list c) → P c)
    → (c : ℕ) → c < box_count list → P c
by_parent list P first step c = up c c (omega arith) where
  up : (n c : ℕ) → c ≤ n → c < box_count list → P c
  up zero c l h = let e : c ≡ 0 = omega arith in rw e first
  up (suc n) c l h =
      ⊎_elim
      (λ (e : c ≡ 0). rw e first)
      (λ (some : 0 < c).
      let p : parent_of list c < c = parent_lt list c some in
      step c some h (up n (parent_of list c) (omega arith) (omega arith)))
      (eq-zero-or-pos c)

-- how many levels are allowed for makes no difference
levels_same : (list : List ℕ) (m n c : ℕ) → c ≤ m → c ≤ n → levels_within list m c ≡ levels_within list n c
levels_same list zero zero c h l = refl
levels_same list zero (suc n) zero h l = refl
levels_same list zero (suc n) (suc c) h l = absurd (omega arith)
levels_same list (suc m) zero zero h l = refl
levels_same list (suc m) zero (suc c) h l = absurd (omega arith)
levels_same list (suc m) (suc n) zero h l = refl
levels_same list (suc m) (suc n) (suc c) h l =
    let p : parent_of list (suc c) < suc c = parent_lt list (suc c) (omega arith) in
    ap suc (levels_same list m n (parent_of list (suc c)) (omega arith) (omega arith))

pub levels_first : (list : List ℕ) → levels_above list 0 ≡ 0
unfolding levels_above
levels_first list = refl

pub levels_up : (list : List ℕ) (c : ℕ) → 0 < c → levels_above list c ≡ suc (levels_above list (parent_of list c))
unfolding levels_above
levels_up list zero h = absurd (omega arith)
levels_up list (suc c) h =
    let p : parent_of list (suc c) < suc c = parent_lt list (suc c) h in
    ap suc (levels_same list c (parent_of list (suc c)) (parent_of list (suc c)) (omega arith) (omega arith))

-- ---- a good list is a tree

module _ (list : List ℕ) (good : list_good list ≡ true) (c : ℕ) (some : 0 < c) (h : c < box_count list) where
  -- some box has c as a child, and it is an earlier one
  parent_some : (i : ℕ) × (i < c) × (is_parent list c i ≡ true)
  parent_some =
      let times : ℕ → ℕ = λ i. times_in list c (start_of list i) in
      let r = sum_some (box_count list) times (omega (arith, good-once list good c some h)) in
      let s = sum_some (child_count list (start_of list r.0)) (λ j. cond (is_child list c (start_of list r.0) j) 1 0) r.2 in
      let e : child_of list (start_of list r.0) s.0 ≡ c = eqb-true _ _ (some_bit _ s.2) in
      (r.0, omega (arith, e, good_later list good r.0 r.1 s.0 s.1), lt-ltb 0 (times r.0) r.2)

  pub parent_box : parent_of list c < box_count list
  parent_box = omega (arith, parent_lt list c some)

  pub parent_is : is_parent list c (parent_of list c) ≡ true
  unfolding parent_of
  parent_is = let r = parent_some in last_true c (is_parent list c) r.0 r.1 r.2

  order_some : (j : ℕ) × (j < child_count list (parent_start list c)) × (is_child list c (parent_start list c) j ≡ true)
  order_some =
      let at = parent_start list c in
      let s = sum_some (child_count list at) (λ j. cond (is_child list c at j) 1 0) (ltb-true 0 (times_in list c at) parent_is) in
      (s.0, s.1, some_bit _ s.2)

  pub order_lt : order_in list c (parent_start list c) < child_count list (parent_start list c)
  unfolding order_in
  order_lt =
      let s = order_some in
      last_lt (child_count list (parent_start list c)) (is_child list c (parent_start list c)) (omega (arith, s.1))

  -- box c is the child of its parent that its order says
  pub order-child : child_of list (parent_start list c) (order_in list c (parent_start list c)) ≡ c
  unfolding order_in
  order-child =
      let s = order_some in
      let at = parent_start list c in
      eqb-true (child_of list at (order_in list c at)) c (last_true (child_count list at) (is_child list c at) s.0 s.1 s.2)

-- the j-th child of box i has it as its parent, and j as its order
module _ (list : List ℕ) (good : list_good list ≡ true) (i j c : ℕ) (h : i < box_count list) (l : j < child_count list (start_of list i))
    (e : child_of list (start_of list i) j ≡ c) where
  pub child_later : i < c
  child_later = omega (arith, e, good_later list good i h j l)

  pub child-box : c < box_count list
  child-box = omega (arith, e, good-number list good i h j l)

  bits : ℕ → ℕ
  bits j = cond (is_child list c (start_of list i) j) 1 0

  bit_here : 0 < bits j
  unfolding bits
  bit_here = bit_some (is_child list c (start_of list i) j) (eq-eqb (child_of list (start_of list i) j) c e)

  pub child_parent : parent_of list c ≡ i
  unfolding bits
  child_parent =
      let some : 0 < c = omega (arith, child_later) in
      let times : ℕ → ℕ = λ i. times_in list c (start_of list i) in
      sum-once (box_count list) times (omega (arith, good-once list good c some child-box)) (parent_of list c) i
      (parent_box list good c some child-box) h
      (ltb-true 0 (times (parent_of list c)) (parent_is list good c some child-box))
      (omega (arith, bit_here, sum_term (child_count list (start_of list i)) bits j l))

  pub child-order : order_in list c (start_of list i) ≡ j
  unfolding bits
  child-order =
      let some : 0 < c = omega (arith, child_later) in
      let times : ℕ → ℕ = λ i. times_in list c (start_of list i) in
      let at : ℕ = start_of list i in
      let o : order_in list c at < child_count list at = rw child_parent at (order_lt list good c some child-box) in
      let q : child_of list at (order_in list c at) ≡ c = rw child_parent at (order-child list good c some child-box) in
      sum-once (child_count list at) bits
      (omega (arith, good-once list good c some child-box, sum_term (box_count list) times i h)) (order_in list c at) j o l
      (bit_some (is_child list c at (order_in list c at)) (eq-eqb (child_of list at (order_in list c at)) c q)) bit_here

-- ---- shares

-- a child of a box of a good list
pub child_of_lem : (list : List ℕ) → list_good list ≡ true → (i j : ℕ) → i < box_count list → j < child_count list (start_of list i)
    → ChildAt list (start_of list i) j
child_of_lem list good i j h l = record {
  within = box-within list (good_framed list good) i (start_of list i) h refl;
  few = good-few list good i h;
  order = l;
  grow = rw (add-one j) (omega (arith, good_weight list good i h j l));
  high = sum-le (j + 1) (child_count list (start_of list i)) (weight_of list (start_of list i)) (omega arith);
}

pub child-at : (list : List ℕ) → list_good list ≡ true → (c : ℕ) → c < box_count list → (at j : ℕ) → at ≡ start_of list c → j < child_count list at
    → ChildAt list at j
child-at list good c h at j e l = rw e (child_of_lem list good c j h (rw e at l))

pub share_found : (list : List ℕ) (at j : ℕ) → ChildAt list at j → (r : Share) → r.child ≡ child_of list at j
    → r.low ≡ weights_below list at j → r.own ≡ weight_of list at j → r.total ≡ weights_below list at (child_count list at)
    → ShareFound list at j r
share_found list at j k r child low own total =
    record { child = child; low = low; own = rw (add-one j, low, own); total = total }

-- ---- places

-- the first box has the whole panel
pub place_whole : (list : List ℕ) (X Y c : ℕ) → levels_above list c ≡ 0
    → place_of list X Y c ≡ record { x = 0; y = 0; width = X; height = Y }
unfolding place_of
place_whole list X Y c e = rw e

-- any other has its part of its parent's place
pub place_part : (list : List ℕ) (X Y c : ℕ) → 0 < c → place_of list X Y c
    ≡ part_of list (parent_start list c) (levels_above list (parent_of list c)) (place_of list X Y (parent_of list c))
    (order_in list c (parent_start list c))
unfolding place_of
place_part list X Y c some = rw (levels_up list c some)

-- a row box divides its width, and a column box its height
module _ (list : List ℕ) (at levels : ℕ) (r : Rect) (j : ℕ) (share : Share) (f : ShareFound list at j share) (part : ℕ × ℕ) where
  pub row_part : levels % 2 ≡ 0
      → part ≡ (edge_of r.width share.low share.total, edge_of r.width (share.low + share.own) share.total - edge_of r.width share.low share.total)
      → record { x = r.x + part.0; y = r.y; width = part.1; height = r.height } ≡ part_of list at levels r j
  unfolding part_of
  row_part even e = rw (e, even, f.own, f.low, f.total)

  pub column_part : levels % 2 ≡ 1
      → part ≡ (edge_of r.height share.low share.total, edge_of r.height (share.low + share.own) share.total - edge_of r.height share.low share.total)
      → record { x = r.x; y = r.y + part.0; width = r.width; height = part.1 } ≡ part_of list at levels r j
  unfolding part_of
  column_part odd e = rw (e, odd, f.own, f.low, f.total)

-- parts of a rectangle lie in it
module _ (X Y : ℕ) (r : Rect) (low high total : ℕ) (grow : low ≤ high) (some : 0 < total) (fits : high ≤ total) (inside : Inside X Y r) where
  width_inside : Inside X Y (width_part r low high total)
  width_inside = record {
    across = omega (arith, inside.across, edge_le r.width high total fits, edge_mono r.width low high total some grow);
    down = inside.down;
  }

  height_inside : Inside X Y (height_part r low high total)
  height_inside = record {
    across = inside.across;
    down = omega (arith, inside.down, edge_le r.height high total fits, edge_mono r.height low high total some grow);
  }

pub part_inside : (list : List ℕ) (X Y at levels : ℕ) (r : Rect) (j : ℕ) → ChildAt list at j → Inside X Y r → Inside X Y (part_of list at levels r j)
unfolding part_of
part_inside list X Y at levels r j k inside = pick (eqb (levels % 2) 0) where
  pick : (t : Bool) → Inside X Y (cond t
      (width_part r (weights_below list at j) (weights_below list at (j + 1)) (weights_below list at (child_count list at)))
      (height_part r (weights_below list at j) (weights_below list at (j + 1)) (weights_below list at (child_count list at))))
  pick true = width_inside X Y r _ _ _ (omega (arith, k.grow)) (omega (arith, k.grow, k.high)) k.high inside
  pick false = height_inside X Y r _ _ _ (omega (arith, k.grow)) (omega (arith, k.grow, k.high)) k.high inside

-- every box of a good list lies on the panel
pub place_inside : (list : List ℕ) → list_good list ≡ true → (X Y c : ℕ) → c < box_count list → Inside X Y (place_of list X Y c)
place_inside list good X Y =
    by_parent list (λ c. Inside X Y (place_of list X Y c))
    (rw (place_whole list X Y 0 (levels_first list)) (record { across = omega arith; down = omega arith }))
    (λ c some h inside.
    rw (place_part list X Y c some)
    (part_inside list X Y (parent_start list c) (levels_above list (parent_of list c)) (place_of list X Y (parent_of list c))
    (order_in list c (parent_start list c))
    (child_of_lem list good (parent_of list c) (order_in list c (parent_start list c)) (parent_box list good c some h) (order_lt list good c some h))
    inside))
