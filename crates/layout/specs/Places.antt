-- Request 2026-13: where each box of a list stands on a panel of X x Y dots. The first box, at level 1, is a row box and has the whole
-- panel. The children of a row box are column boxes that stand side by side in it; those of a column box are row boxes, one below the
-- other.
-- Assumes nothing.
use Rattle.std.specs.Prelude.{ℕ, zero, suc, ◌+◌, ◌-◌, ◌*◌, ◌/◌, ◌%◌, Bool, cond, ◌&&◌, List, ltb, leb, eqb}
use Rattle.lists.specs.Rules.{all_below}
use Rattle.counting.specs.Below.{sum_below, last_below}
use Rattle.layout_rules.specs.Boxes.{box_count, child_count, weight_of, start_of, is_child, times_in}
use Rattle.layout.specs.declared.Rect.{Rect}

-- ---- the tree

-- box c is a child of box i
abbrev pub is_parent : (list : List ℕ) (c i : ℕ) → Bool
is_parent list c i = ltb 0 (times_in list c (start_of list i))

-- the earlier box whose child box c is; 0 of the first box
unfoldable pub parent_of : (list : List ℕ) (c : ℕ) → ℕ
parent_of list c = last_below c (is_parent list c)

-- which child of the box at an index box c is
unfoldable pub order_in : (list : List ℕ) (c at : ℕ) → ℕ
order_in list c at = last_below (child_count list at) (is_child list c at)

-- the levels above box c: the parents that lead to the first box, counted up to `most`
abbrev pub levels_within : (list : List ℕ) (most c : ℕ) → ℕ
levels_within list zero c = 0
levels_within list (suc most) zero = 0
levels_within list (suc most) (suc c) = suc (levels_within list most (parent_of list (suc c)))

-- a box has no more of them than its number, since each parent is an earlier box
unfoldable pub levels_above : (list : List ℕ) (c : ℕ) → ℕ
levels_above list c = levels_within list c c

-- 30: at most 6 levels, the box's own among them
abbrev pub level_good : (list : List ℕ) (c : ℕ) → Bool
level_good list c = leb (levels_above list c + 1) 6

unfoldable pub levels_good : (list : List ℕ) → Bool
levels_good list = all_below (box_count list) (level_good list)

-- ---- the places

-- the sum of the first j weights of the box at an index
abbrev pub weights_below : (list : List ℕ) (at j : ℕ) → ℕ
weights_below list at j = sum_below j (weight_of list at)

-- where an edge stands in a size that is divided by weights, rounded down to whole dots
abbrev pub edge_of : (size weights total : ℕ) → ℕ
edge_of size weights total = size * weights / total

-- what lies between two edges: of a row box a part of its width, of a column box a part of its height
abbrev pub width_part : (r : Rect) (low high total : ℕ) → Rect
width_part r low high total = record {
  x = r.x + edge_of r.width low total;
  y = r.y;
  width = edge_of r.width high total - edge_of r.width low total;
  height = r.height;
}

abbrev pub height_part : (r : Rect) (low high total : ℕ) → Rect
height_part r low high total = record {
  x = r.x;
  y = r.y + edge_of r.height low total;
  width = r.width;
  height = edge_of r.height high total - edge_of r.height low total;
}

-- what the j-th child has of the box at an index that stands at r: a box with an even number of levels above it is a row box
unfoldable pub part_of : (list : List ℕ) (at levels : ℕ) (r : Rect) (j : ℕ) → Rect
part_of list at levels r j =
    cond (eqb (levels % 2) 0)
    (width_part r (weights_below list at j) (weights_below list at (j + 1)) (weights_below list at (child_count list at)))
    (height_part r (weights_below list at j) (weights_below list at (j + 1)) (weights_below list at (child_count list at)))

abbrev pub parent_start : (list : List ℕ) (c : ℕ) → ℕ
parent_start list c = start_of list (parent_of list c)

-- the place of a box with so many levels above it: the whole panel, or its part of its parent's place
abbrev pub place_at : (list : List ℕ) (X Y levels c : ℕ) → Rect
place_at list X Y zero c = record { x = 0; y = 0; width = X; height = Y }
place_at list X Y (suc levels) c =
    part_of list (parent_start list c) levels (place_at list X Y levels (parent_of list c)) (order_in list c (parent_start list c))

unfoldable pub place_of : (list : List ℕ) (X Y c : ℕ) → Rect
place_of list X Y c = place_at list X Y (levels_above list c) c

-- 31: no box is without width or height
abbrev pub has_dots : (r : Rect) → Bool
has_dots r = ltb 0 r.width && ltb 0 r.height

unfoldable pub size_good : (list : List ℕ) (X Y c : ℕ) → Bool
size_good list X Y c = has_dots (place_of list X Y c)

unfoldable pub sizes_good : (list : List ℕ) (X Y : ℕ) → Bool
sizes_good list X Y = all_below (box_count list) (size_good list X Y)
