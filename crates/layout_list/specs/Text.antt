-- A layout as text: a line `X Y WIDTH HEIGHT` for each leaf, in the list's order, or `refused` with the number.
-- Assumes nothing.
use Rattle.std.specs.Prelude.{ℕ, ◌≤◌, ◌<◌, ◌≡◌, List, [], ◌∷◌, ◌++◌, length, get_or, take, drop, Ok, Err}
use Rattle.listing.specs.Text.{ascii, newline, decimal}
use Rattle.layout.specs.Answer.{Answer, nowhere, layout_of}
use Rattle.layout.specs.Tiling.{Inside}
use Rattle.layout.specs.declared.Rect.{Rect}
use Rattle.layout.specs.declared.Leaves.{Leaves}

abbrev pub leaf_line : (r : Rect) → List ℕ
leaf_line r =
    (decimal r.x ++ ascii " ")
    ++ (decimal r.y ++ ascii " ")
    ++ (decimal r.width ++ ascii " ")
    ++ (decimal r.height ++ newline)

abbrev pub leaf_lines : List Rect → List ℕ
leaf_lines [] = []
leaf_lines (r ∷ rects) = leaf_line r ++ leaf_lines rects

abbrev pub answer_text : Answer → List ℕ
answer_text (Ok leaves) = leaf_lines (take leaves.count leaves.rects)
answer_text (Err number) = ascii "refused " ++ (decimal number ++ newline)

-- the input is the panel's code, then the list; no code is no panel
unfoldable pub layout_text : (input : List ℕ) → List ℕ
layout_text input = answer_text (layout_of (get_or input 0 256) (drop 1 input))

-- leaves that lie on the largest panel
pub record Drawn (leaves : Leaves) : Type 0 where
  pub few : leaves.count ≤ 64
  pub whole : length leaves.rects ≡ 64
  pub inside : (k : ℕ) → k < leaves.count → Inside 264 176 (get_or leaves.rects k nowhere)
