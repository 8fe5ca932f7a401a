-- Request 2026-13: a layout's list of boxes. Its first byte says how many there are, and the boxes follow one after the other: a box is
-- its child count k, k weights and k child numbers, and box 0 is the first. A box is read at the index `at` where it begins.
-- Assumes nothing.
use Rattle.std.specs.Prelude.{ℕ, zero, suc, ◌+◌, ◌-◌, ◌*◌, Bool, List, [], ◌∷◌, ltb, leb, eqb, length, get_or}
use Rattle.lists.specs.Rules.{every, all_below}
use Rattle.counting.specs.Below.{sum_below, count_below}

abbrev pub box_count : (list : List ℕ) → ℕ
box_count list = get_or list 0 0

-- the child count of the box at an index, its j-th weight and its j-th child's number
abbrev pub child_count : (list : List ℕ) (at : ℕ) → ℕ
child_count list at = get_or list at 0

abbrev pub weight_of : (list : List ℕ) (at j : ℕ) → ℕ
weight_of list at j = get_or list (at + 1 + j) 0

abbrev pub child_of : (list : List ℕ) (at j : ℕ) → ℕ
child_of list at j = get_or list (at + 1 + child_count list at + j) 0

-- where the next box begins
abbrev pub next_box : (list : List ℕ) (at : ℕ) → ℕ
next_box list at = at + 1 + 2 * child_count list at

-- the index at which box i begins
abbrev pub start_of : (list : List ℕ) (i : ℕ) → ℕ
start_of list zero = 1
start_of list (suc i) = next_box list (start_of list i)

-- ---- 29: the rules of a list

-- a child's weight is 1 to 100, and it is a box of the list, later than its parent, box i
abbrev pub child_rules : (list : List ℕ) (i at j : ℕ) → List Bool
child_rules list i at j =
    leb 1 (weight_of list at j)
    ∷ leb (weight_of list at j) 100
    ∷ ltb i (child_of list at j)
    ∷ ltb (child_of list at j) (box_count list)
    ∷ []

unfoldable pub child_good : (list : List ℕ) (i at j : ℕ) → Bool
child_good list i at j = every (child_rules list i at j)

-- a box has at most 8 children, and each keeps its rule
abbrev pub box_rules : (list : List ℕ) (i at : ℕ) → List Bool
box_rules list i at = leb (child_count list at) 8 ∷ all_below (child_count list at) (child_good list i at) ∷ []

unfoldable pub box_good : (list : List ℕ) (i : ℕ) → Bool
box_good list i = every (box_rules list i (start_of list i))

-- box c is the j-th child of the box at an index
abbrev pub is_child : (list : List ℕ) (c at j : ℕ) → Bool
is_child list c at j = eqb (child_of list at j) c

-- how often box c is a child of the box at an index, and of any box
abbrev pub times_in : (list : List ℕ) (c at : ℕ) → ℕ
times_in list c at = count_below (child_count list at) (is_child list c at)

abbrev pub times_child : (list : List ℕ) (c : ℕ) → ℕ
times_child list c = sum_below (box_count list) (λ i. times_in list c (start_of list i))

-- box i + 1 is a child exactly once
unfoldable pub child_once : (list : List ℕ) (i : ℕ) → Bool
child_once list i = eqb (times_child list (i + 1)) 1

-- 1 to 64 boxes, and nothing is missing or follows; each box keeps its rule; every box but the first is a child exactly once
abbrev pub list_rules : (list : List ℕ) → List Bool
list_rules list =
    leb 1 (box_count list)
    ∷ leb (box_count list) 64
    ∷ eqb (start_of list (box_count list)) (length list)
    ∷ all_below (box_count list) (box_good list)
    ∷ all_below (box_count list - 1) (child_once list)
    ∷ []

unfoldable pub list_good : (list : List ℕ) → Bool
list_good list = every (list_rules list)
