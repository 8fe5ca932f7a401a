-- Names for parts of internal contracts.
-- Assumes nothing.
use Rattle.std.specs.Prelude.{ℕ, ◌+◌, ◌≤◌, ◌<◌, ◌≡◌, true, false, not, List, [], ◌∷◌, length, get_or, Result, Ok, Err, MatchResult}
use Rattle.refusal.specs.declared.Refusal.{Refusal}
use Rattle.refusal.specs.declared.Refusal.TheVariants.{Levels}
use Rattle.lists.specs.Rules.{case, first_of}
use Rattle.layout_rules.specs.Boxes.{box_count, child_count, child_of, next_box, list_good}
use Rattle.layout.specs.Places.{parent_of, levels_above, level_good, levels_good, weights_below, place_of, sizes_good}
use Rattle.layout.specs.Answer.{nowhere, leaves_with, Answer, leaves_of}
use Rattle.layout.specs.Tiling.{Inside}
use Rattle.layout.specs.declared.Rect.{Rect}
use Rattle.layout.specs.declared.shares.Share.{Share}

-- what a good list answers on a panel of X x Y dots: 30, 31, or the leaves
abbrev pub placed_on : (list : List ℕ) (X Y : ℕ) → Answer
placed_on list X Y =
    first_of (case (not (levels_good list)) 30 ∷ case (not (sizes_good list X Y)) 31 ∷ []) (λ number. Err number)
    (Ok (leaves_with (leaves_of list X Y)))

-- ---- shares

-- the box at an index has a j-th child, which brings some weight
pub record ChildAt (list : List ℕ) (at j : ℕ) : Type 0 where
  pub within : next_box list at ≤ length list
  pub few : child_count list at ≤ 8
  pub order : j < child_count list at
  pub grow : weights_below list at j < weights_below list at (j + 1)
  pub high : weights_below list at (j + 1) ≤ weights_below list at (child_count list at)

-- the j-th child of the box at an index
pub record ShareFound (list : List ℕ) (at j : ℕ) (r : Share) : Type 0 where
  pub child : r.child ≡ child_of list at j
  pub low : r.low ≡ weights_below list at j
  pub own : r.low + r.own ≡ weights_below list at (j + 1)
  pub total : r.total ≡ weights_below list at (child_count list at)

-- ---- the places of the boxes

-- box d is box c, or stands below it in the tree
pub data Under (list : List ℕ) (c : ℕ) : ℕ → Type 0 where
  self : Under list c c
  child : {d : ℕ} → 0 < d → Under list c (parent_of list d) → Under list c d

-- `chart` says where box d stands on a panel of X x Y dots, and the box does not lie too deep
pub record Told (list : List ℕ) (X Y : ℕ) (chart : List Rect) (d : ℕ) : Type 0 where
  pub level : level_good list d ≡ true
  pub stands : get_or chart d nowhere ≡ place_of list X Y d

-- a box of a good list, with the levels remaining of the six, at a place on a panel of a size that the code can take
pub record Standing (list : List ℕ) (c levels : ℕ) (place : Rect) (before : List Rect) : Type 0 where
  pub good : list_good list ≡ true
  pub box : c < box_count list
  pub level : levels_above list c + levels ≡ 6
  pub inside : Inside 264 176 place
  pub whole : length before ≡ 64

-- box c and all boxes under it are placed, on every panel on which box c stands at `place`; what was told before still is
pub record Placed (list : List ℕ) (c : ℕ) (place : Rect) (before after : List Rect) : Type 0 where
  pub whole : length after ≡ 64
  pub kept : (X Y d : ℕ) → place ≡ place_of list X Y c → Told list X Y before d → Told list X Y after d
  pub told : (X Y d : ℕ) → place ≡ place_of list X Y c → d < box_count list → Under list c d → Told list X Y after d

-- the refusal of a list with a box that lies too deep
pub record TooDeep (list : List ℕ) (refusal : Refusal) : Type 0 where
  pub is : refusal ≡ Levels
  pub deep : levels_good list ≡ false

-- they are placed, or one of them lies too deep
abbrev pub Laid : (list : List ℕ) (c : ℕ) (place : Rect) (before : List Rect) → Result Unit Refusal → (after : List Rect) → Type 0
Laid list c place before (Ok _) after = Placed list c place before after
Laid list c place before (Err refusal) after = TooDeep list refusal

-- all boxes are placed
pub record AllPlaced (list : List ℕ) (X Y : ℕ) (chart : List Rect) : Type 0 where
  pub whole : length chart ≡ 64
  pub levels : levels_good list ≡ true
  pub stands : (c : ℕ) → c < box_count list → get_or chart c nowhere ≡ place_of list X Y c

abbrev pub Charted : (list : List ℕ) (X Y : ℕ) → Result (List Rect) Refusal → Type 0
Charted list X Y result = MatchResult result (AllPlaced list X Y) (TooDeep list)
