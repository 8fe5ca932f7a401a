-- Request 2026-13: the leaves tile the panel. None overlaps another, and together they are all of it.
-- Assumes nothing.
use Rattle.std.specs.Prelude.{ℕ, ◌+◌, ◌≤◌, ◌<◌, ◌≡◌, Bool, true, cond, List, [], ◌∷◌, ltb, leb, length, get_or, take, IfOk}
use Rattle.lists.specs.Rules.{every}
use Rattle.panel.specs.Panels.{width_of, rows_of}
use Rattle.layout_rules.specs.Boxes.{list_good}
use Rattle.layout.specs.Answer.{nowhere, leaves_of, Answer}
use Rattle.layout.specs.declared.Rect.{Rect}

-- the dot at x, y lies in a rectangle
abbrev pub cover_rules : (x y : ℕ) (r : Rect) → List Bool
cover_rules x y r = leb r.x x ∷ ltb x (r.x + r.width) ∷ leb r.y y ∷ ltb y (r.y + r.height) ∷ []

unfoldable pub covers : (x y : ℕ) (r : Rect) → Bool
covers x y r = every (cover_rules x y r)

-- in how many rectangles of a list it lies
abbrev pub times_covered : (x y : ℕ) (rects : List Rect) → ℕ
times_covered x y [] = 0
times_covered x y (r ∷ rects) = cond (covers x y r) 1 0 + times_covered x y rects

-- a rectangle lies on a panel of X x Y dots
pub record Inside (X Y : ℕ) (r : Rect) : Type 0 where
  pub across : r.x + r.width ≤ X
  pub down : r.y + r.height ≤ Y

-- every dot of the panel lies in exactly one rectangle, and every rectangle lies on the panel
pub record Tiles (X Y : ℕ) (rects : List Rect) : Type 0 where
  pub once : (x y : ℕ) → x < X → y < Y → times_covered x y rects ≡ 1
  pub within : (k : ℕ) → k < length rects → Inside X Y (get_or rects k nowhere)

-- ---- the theorem

-- the leaves of every list that keeps the rules tile a panel of any size
abbrev pub LeavesTile : Type 0
LeavesTile = (list : List ℕ) → list_good list ≡ true → (X Y : ℕ) → Tiles X Y (leaves_of list X Y)

-- leaves that are given tile the panel
abbrev pub Tiled : (panel : ℕ) (answer : Answer) → Type 0
Tiled panel answer = IfOk answer (λ leaves. Tiles (width_of panel) (rows_of panel) (take leaves.count leaves.rects))
