-- Request 2026-13: the leaves of a list, in the order of their numbers, and the answer.
-- Assumes nothing.
use Rattle.std.specs.Prelude.{ℕ, zero, suc, ◌-◌, Bool, cond, not, List, [], ◌∷◌, ◌++◌, eqb, length, replicate, Result, Ok, Err}
use Rattle.lists.specs.Rules.{Case, case, first_of}
use Rattle.refusal.specs.Numbers.{number_of}
use Rattle.refusal.specs.declared.Refusal.{Refusal}
use Rattle.panel.specs.Panels.{is_panel, width_of, rows_of}
use Rattle.layout_rules.specs.Boxes.{box_count, child_count, start_of, list_good}
use Rattle.layout.specs.Places.{place_of, levels_good, sizes_good}
use Rattle.layout.specs.declared.Rect.{Rect}
use Rattle.layout.specs.declared.Leaves.{Leaves}

-- a box with no children is a leaf
abbrev pub is_leaf : (list : List ℕ) (c : ℕ) → Bool
is_leaf list c = eqb (child_count list (start_of list c)) 0

-- the places of the leaves among the first n boxes
abbrev pub leaves_below : (list : List ℕ) (X Y n : ℕ) → List Rect
leaves_below list X Y zero = []
leaves_below list X Y (suc n) = leaves_below list X Y n ++ cond (is_leaf list n) (place_of list X Y n ∷ []) []

abbrev pub leaves_of : (list : List ℕ) (X Y : ℕ) → List Rect
leaves_of list X Y = leaves_below list X Y (box_count list)

-- a rectangle of no dots
abbrev pub nowhere : Rect
nowhere = record { x = 0; y = 0; width = 0; height = 0 }

-- an answer: its rectangles in front, and empty ones in the rest of the array of 64
abbrev pub padded : List Rect → List Rect
padded rects = rects ++ replicate (64 - length rects) nowhere

abbrev pub leaves_with : (rects : List Rect) → Leaves
leaves_with rects = record { count = length rects; rects = padded rects }

-- the leaves, or the number of a refusal
abbrev pub Answer : Type 0
Answer = Result Leaves ℕ

-- the answer that a result stands for
abbrev pub answer_given : Result Leaves Refusal → Answer
answer_given (Ok leaves) = Ok leaves
answer_given (Err refusal) = Err (number_of refusal)

-- 14 the panel, 29 a broken list, 30 too deep, 31 a box of no width or height
abbrev pub cases : (panel : ℕ) (list : List ℕ) → List Case
cases panel list =
    case (not (is_panel panel)) 14
    ∷ case (not (list_good list)) 29
    ∷ case (not (levels_good list)) 30
    ∷ case (not (sizes_good list (width_of panel) (rows_of panel))) 31
    ∷ []

-- the first of them, or the leaves
unfoldable pub layout_of : (panel : ℕ) (list : List ℕ) → Answer
layout_of panel list =
    first_of (cases panel list) (λ number. Err number) (Ok (leaves_with (leaves_of list (width_of panel) (rows_of panel))))
