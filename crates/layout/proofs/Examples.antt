-- Layouts worked by hand.
-- Assumes nothing.
use Prim.Native.Nat.{ℕ}
use mathlib.Core.Path.{◌≡◌, refl}
use mathlib.Core.List.{List, [], ◌∷◌}
use Rattle.std.specs.Prelude.{Ok, Err}
use Rattle.layout_rules.specs.Boxes.{child_good, box_good, child_once, list_good}
use Rattle.layout.specs.Places.{parent_of, order_in, levels_above, levels_good, part_of, place_of, size_good, sizes_good}
use Rattle.layout.specs.Answer.{leaves_with, Answer, layout_of}
use Rattle.layout.specs.declared.Rect.{Rect}

abbrev rect : (x y width height : ℕ) → Rect
rect x y width height = record { x = x; y = y; width = width; height = height }

-- two columns with an edge at a third of 264, the right one cut in half: boxes 1, 3 and 4 are the leaves
pub thirds : layout_of 2 (5 ∷ 2 ∷ 1 ∷ 2 ∷ 1 ∷ 2 ∷ 0 ∷ 2 ∷ 1 ∷ 1 ∷ 3 ∷ 4 ∷ 0 ∷ 0 ∷ [])
    ≡ Ok (leaves_with (rect 0 0 88 176 ∷ rect 88 0 176 88 ∷ rect 88 88 176 88 ∷ []))
unfolding layout_of list_good box_good child_good child_once levels_good levels_above parent_of order_in sizes_good size_good place_of part_of
thirds = refl

-- the number of an answer: 0 where the leaves are given
abbrev number_of : Answer → ℕ
number_of (Ok leaves) = 0
number_of (Err number) = number

abbrev number : (panel : ℕ) (list : List ℕ) → ℕ
number panel list = number_of (layout_of panel list)

-- no panel, before an empty list; an empty list, a box that is its own child, one that is a child twice, one that is none, and a byte
-- too many; a chain of six boxes, and one of seven; a child that gets floor(128 / 701) dots of a width
pub numbers : (number 3 []
    ∷ number 2 []
    ∷ number 2 (2 ∷ 1 ∷ 1 ∷ 1 ∷ 1 ∷ 1 ∷ 1 ∷ [])
    ∷ number 2 (2 ∷ 2 ∷ 1 ∷ 1 ∷ 1 ∷ 1 ∷ 0 ∷ [])
    ∷ number 2 (2 ∷ 0 ∷ 0 ∷ [])
    ∷ number 2 (1 ∷ 0 ∷ 0 ∷ [])
    ∷ number 2 (6 ∷ 1 ∷ 1 ∷ 1 ∷ 1 ∷ 1 ∷ 2 ∷ 1 ∷ 1 ∷ 3 ∷ 1 ∷ 1 ∷ 4 ∷ 1 ∷ 1 ∷ 5 ∷ 0 ∷ [])
    ∷ number 2 (7 ∷ 1 ∷ 1 ∷ 1 ∷ 1 ∷ 1 ∷ 2 ∷ 1 ∷ 1 ∷ 3 ∷ 1 ∷ 1 ∷ 4 ∷ 1 ∷ 1 ∷ 5 ∷ 1 ∷ 1 ∷ 6 ∷ 0 ∷ [])
    ∷ number 0 (9 ∷ 8 ∷ 1 ∷ 100 ∷ 100 ∷ 100 ∷ 100 ∷ 100 ∷ 100 ∷ 100 ∷ 1 ∷ 2 ∷ 3 ∷ 4 ∷ 5 ∷ 6 ∷ 7 ∷ 8
    ∷ 0 ∷ 0 ∷ 0 ∷ 0 ∷ 0 ∷ 0 ∷ 0 ∷ 0 ∷ [])
    ∷ [])
    ≡ 14 ∷ 29 ∷ 29 ∷ 29 ∷ 29 ∷ 29 ∷ 0 ∷ 30 ∷ 31 ∷ []
unfolding layout_of list_good box_good child_good child_once levels_good levels_above parent_of order_in sizes_good size_good place_of part_of
numbers = refl
