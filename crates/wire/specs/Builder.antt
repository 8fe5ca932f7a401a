-- The line builder's number, and the output's bytes after it, on any input (document 01, "Numbers given back").
-- Assumes nothing.
use Rattle.std.specs.Prelude.{ℕ, Bool, not, List, [], ◌∷◌, eqb, ltb, leb, length}
use Rattle.lists.specs.Lists.{overlay}
use Rattle.lists.specs.Rules.{every, Case, case, first_of}
use Rattle.panel.specs.Panels.{is_panel, rows_of, row_bytes_of}
use Rattle.panel.specs.Dots.{row_dot}
use Rattle.wire.specs.Line.{line, line_length}

-- panel, stage and row are in range, and a picture row is X/8 bytes
abbrev pub range_tests : (panel stage y row_length : ℕ) → List Bool
range_tests panel stage y row_length =
    is_panel panel
    ∷ leb 1 stage
    ∷ leb stage 4
    ∷ ltb y (rows_of panel)
    ∷ eqb row_length (row_bytes_of panel)
    ∷ []

unfoldable pub in_range : (panel stage y row_length : ℕ) → Bool
in_range panel stage y row_length = every (range_tests panel stage y row_length)

abbrev pub build_cases : (panel stage y row_length out_length : ℕ) → List Case
build_cases panel stage y row_length out_length =
    case (not (in_range panel stage y row_length)) 14
    ∷ case (ltb out_length (line_length (row_bytes_of panel) (rows_of panel))) 11
    ∷ []

-- a refusal leaves the output; an accepted call answers 0 and puts the line first
unfoldable pub build_line : (panel stage y : ℕ) (row out : List ℕ) → ℕ × List ℕ
build_line panel stage y row out =
    first_of (build_cases panel stage y (length row) (length out))
    (λ number. (number, out))
    (0, overlay (line (row_bytes_of panel) (rows_of panel) stage y (row_dot row)) out)
