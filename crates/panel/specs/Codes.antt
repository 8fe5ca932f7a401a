-- Document 01, "One line on the wire": the two-bit codes that drive a dot, and the marks that select a row.
-- Assumes nothing.
use Rattle.std.specs.Prelude.{ℕ, ◌-◌, cond, [], ◌∷◌, eqb, get_or}

abbrev pub black : ℕ
black = 0b11

abbrev pub white : ℕ
white = 0b10

abbrev pub nothing : ℕ
nothing = 0b00

-- what stages 1 to 4 send where the picture they look at is white, and where it is black
abbrev pub where_white : ℕ → ℕ
where_white stage = get_or (black ∷ white ∷ black ∷ white ∷ []) (stage - 1) nothing

abbrev pub where_black : ℕ → ℕ
where_black stage = get_or (white ∷ nothing ∷ nothing ∷ black ∷ []) (stage - 1) nothing

-- one of two codes, by a dot: 1 is white
unfoldable pub code_by : (if_white if_black dot : ℕ) → ℕ
code_by if_white if_black dot = cond (eqb dot 1) if_white if_black

-- the code that a stage sends for a dot
abbrev pub code_of : (stage dot : ℕ) → ℕ
code_of stage = code_by (where_white stage) (where_black stage)

-- a row's mark in its scan byte, by the row number modulo 4
abbrev pub scan_mark : ℕ → ℕ
scan_mark r = get_or (0xC0 ∷ 0x30 ∷ 0x0C ∷ 0x03 ∷ []) r 0
