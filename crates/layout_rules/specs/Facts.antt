-- A name for a part of internal contracts.
-- Assumes nothing.
use Rattle.std.specs.Prelude.{ℕ, ◌≤◌, ◌≡◌, List, length}
use Rattle.layout_rules.specs.Boxes.{box_count, start_of}

-- the boxes of a list end where it ends
pub record Framed (list : List ℕ) : Type 0 where
  pub few : box_count list ≤ 64
  pub whole : start_of list (box_count list) ≡ length list
