-- Laws of the leaves and of the answer.
-- Assumes nothing.
use mathlib.Core.Path.{◌≡◌, refl, sym, ap, ◌∙◌}
use mathlib.Core.Bool.{Bool, true, false, cond, not}
use mathlib.Core.List.{List, [], ◌∷◌, ◌++◌, append-nil}
use Prim.Native.Nat.{ℕ, zero, suc, ◌+◌, ◌-◌, ◌*◌, ◌≤◌, ◌<◌}
use native.Mathlib.Numerals.{add-one}
use native.Mathlib.Omega.{arith}
use lib.ListN.{length, set, replicate, length-append, length-replicate}
use lib.Seq.{set_at, append_snoc}
use Rattle.lists.specs.Rules.{all_below, Case, case}
use Rattle.lists.proofs.Rules.{below_fails, given, taken, here, past, First, None, none, none_append}
use borrow.Author.Tests.{lt-ltb, le-ltb}
use Rattle.panel.specs.Panels.{Sizes, is_panel, width_of, rows_of, row_bytes_of, shape_of}
use Rattle.panel.specs.Names.{panel_code}
use Rattle.panel.specs.Facts.{sizes}
use Rattle.panel.specs.declared.table.Panel.{Panel}
use Rattle.panel.specs.declared.sizes.Shape.{Shape}
use Rattle.panel.proofs.Panels.{each_panel, code_lt}
use Rattle.counting.proofs.Below.{all_more}
use Rattle.layout_rules.specs.Boxes.{box_count, list_good}
use Rattle.layout.specs.Places.{place_of, has_dots, levels_good, size_good, sizes_good}
use Rattle.layout.specs.Answer.{is_leaf, leaves_below, leaves_of, nowhere, padded, leaves_with, layout_of}
use Rattle.layout.specs.Facts.{placed_on}
use Rattle.layout.specs.declared.Rect.{Rect}
use Rattle.layout.specs.declared.Leaves.{Leaves}
use Rattle.std.specs.Prelude.{Ok, Err}

-- ---- the array

pub length-padded : (rects : List Rect) → length rects ≤ 64 → length (padded rects) ≡ 64
length-padded rects h = rw (length-append, length-replicate) (omega arith)

padded_more : (rects : List Rect) (r : Rect) → length rects < 64 → set (padded rects) (length rects) r ≡ padded (rects ++ (r ∷ []))
padded_more rects r h =
    let e : 64 - length rects ≡ suc (63 - length rects) = omega arith in
    let l : 64 - length (rects ++ (r ∷ [])) ≡ 63 - length rects = rw length-append (omega arith) in
    rw (e, l) (set_at rects nowhere (replicate (63 - length rects) nowhere) r (length rects) refl
    ∙ sym (append_snoc rects r (replicate (63 - length rects) nowhere)))

-- one leaf more
abbrev pub with_leaf : (leaves : Leaves) (place : Rect) → Leaves
with_leaf leaves place = record { count = leaves.count + 1; rects = set leaves.rects leaves.count place }

leaves_more : (rects : List Rect) (r : Rect) → length rects < 64 → with_leaf (leaves_with rects) r ≡ leaves_with (rects ++ (r ∷ []))
leaves_more rects r h =
    let l : length (rects ++ (r ∷ [])) ≡ length rects + 1 = length-append rects (r ∷ []) in
    rw (padded_more rects r h, l)

-- ---- the leaves

module _ (list : List ℕ) (X Y : ℕ) where
  pub leaves_le : (n : ℕ) → length (leaves_below list X Y n) ≤ n
  leaves_le zero = omega arith
  leaves_le (suc n) = rw length-append (one (is_leaf list n) (leaves_le n)) where
    one : (t : Bool) → length (leaves_below list X Y n) ≤ n
        → length (leaves_below list X Y n) + length (cond t (place_of list X Y n ∷ []) []) ≤ suc n
    one true h = omega arith
    one false h = omega arith

  module _ (n : ℕ) (leaves : Leaves) (e : leaves ≡ leaves_with (leaves_below list X Y n)) where
    -- there is a place for another leaf
    pub room : n < 64 → ((leaves.count < 64) × (length leaves.rects ≡ 64))
    room h =
        let l = leaves_le n in
        rw e (omega arith, length-padded (leaves_below list X Y n) (omega arith))

    pub leaf_more : n < 64 → is_leaf list n ≡ true → with_leaf leaves (place_of list X Y n) ≡ leaves_with (leaves_below list X Y (n + 1))
    leaf_more h t =
        rw (add-one n, t, e) (leaves_more (leaves_below list X Y n) (place_of list X Y n) (omega (arith, leaves_le n)))

    pub inner_more : is_leaf list n ≡ false → leaves ≡ leaves_with (leaves_below list X Y (n + 1))
    inner_more t = rw (add-one n, t, append-nil) e

  pub size_more : (c : ℕ) → has_dots (place_of list X Y c) ≡ true → all_below c (size_good list X Y) ≡ true
      → all_below (c + 1) (size_good list X Y) ≡ true
  unfolding size_good
  size_more c e before = all_more c (size_good list X Y) e before

  abbrev refusals : List Case
  refusals = case (not (levels_good list)) 30 ∷ case (not (sizes_good list X Y)) 31 ∷ []

  pub placed_refused : {number : ℕ} → First refusals number → Err number ≡ placed_on list X Y
  placed_refused f = sym (given refusals (λ number. Err number) (Ok (leaves_with (leaves_of list X Y))) f)

  -- a box of no width or height
  pub no_dots : levels_good list ≡ true → (c : ℕ) → c < box_count list → has_dots (place_of list X Y c) ≡ false
      → Err 31 ≡ placed_on list X Y
  unfolding sizes_good size_good
  no_dots few c h e = placed_refused (past (ap not few) (here (ap not (below_fails (box_count list) (size_good list X Y) c h e))))

  pub all_placed : levels_good list ≡ true → all_below (box_count list) (size_good list X Y) ≡ true
      → Ok (leaves_with (leaves_of list X Y)) ≡ placed_on list X Y
  unfolding sizes_good
  all_placed few e =
      sym (taken refusals (λ number. Err number) (Ok (leaves_with (leaves_of list X Y))) (past (ap not few) (past (ap not e) none)))

-- ---- the refusals

module _ (panel : ℕ) (list : List ℕ) where
  abbrev pub first : List Case
  first = case (not (is_panel panel)) 14 ∷ case (not (list_good list)) 29 ∷ []

  abbrev last : List Case
  last = refusals list (width_of panel) (rows_of panel)

  pub layout_refused : {number : ℕ} → First (first ++ last) number → Err number ≡ layout_of panel list
  unfolding layout_of
  layout_refused f =
      sym (given (first ++ last) (λ number. Err number) (Ok (leaves_with (leaves_of list (width_of panel) (rows_of panel)))) f)

  pub layout_placed : (X Y : ℕ) → X ≡ width_of panel → Y ≡ rows_of panel → None first → placed_on list X Y ≡ layout_of panel list
  unfolding layout_of
  layout_placed X Y e q free =
      rw (e, q)
      (none_append first last (λ number. Err number) (Ok (leaves_with (leaves_of list (width_of panel) (rows_of panel)))) free)

-- ---- the panel

pub unnamed_lem : (code : ℕ) → 3 ≤ code → is_panel code ≡ false
unnamed_lem code h = le-ltb code 3 h

-- the width of a panel
pub width_bytes : (panel : ℕ) → panel < 3 → 8 * row_bytes_of panel ≡ width_of panel
width_bytes = each_panel (λ p. 8 * row_bytes_of p ≡ width_of p) refl refl refl

module _ (code : ℕ) (panel : Panel) (named : panel_code panel ≡ code) where
  pub named_lem : is_panel code ≡ true
  named_lem = lt-ltb code 3 (rw named at (code_lt panel))

  module _ (shape : Shape) (is : sizes shape ≡ shape_of (panel_code panel)) where
    pub rows_named : shape.rows ≡ rows_of code
    rows_named = ap (λ (s : Sizes). s.rows) is ∙ ap rows_of named

    pub width_named : 8 * shape.bytes ≡ width_of code
    width_named =
        let bytes : shape.bytes ≡ row_bytes_of code = ap (λ (s : Sizes). s.bytes) is ∙ ap row_bytes_of named in
        rw bytes (width_bytes code (rw named at (code_lt panel)))
