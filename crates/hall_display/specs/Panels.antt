-- Document 003, 6 and 6.1: the two panels of the hall display, by the code in their header, and that header.
-- Assumes nothing.
use Rattle.std.specs.Prelude.{ℕ, ◌*◌, ◌/◌, ◌%◌, Bool, cond, ◌&&◌, ◌||◌, List, [], ◌∷◌, ◌++◌, eqb, replicate}

-- 0x3E is the 13.3" panel, 0x3F the 31.2"
abbrev pub is_panel : (code : ℕ) → Bool
is_panel code = eqb code 0x3E || eqb code 0x3F

-- 1 or 2 bits a dot
abbrev pub is_depth : (depth : ℕ) → Bool
is_depth depth = eqb depth 1 || eqb depth 2

-- such a panel, at such a depth
unfoldable pub is_display : (panel depth : ℕ) → Bool
is_display panel depth = is_panel panel && is_depth depth

-- dots of a row, and rows, as the header has them: 1600 x 1200 and 1440 x 2560
abbrev pub width_of : (panel : ℕ) → ℕ
width_of panel = cond (eqb panel 0x3E) 1600 1440

abbrev pub rows_of : (panel : ℕ) → ℕ
rows_of panel = cond (eqb panel 0x3E) 1200 2560

-- the pixel data format in which a panel takes its image
abbrev pub format_of : (panel : ℕ) → ℕ
format_of panel = cond (eqb panel 0x3E) 0 7

-- the bytes of an image
abbrev pub image_bytes : (panel depth : ℕ) → ℕ
image_bytes panel depth = width_of panel * rows_of panel / 8 * depth

-- a number of two bytes, high byte first
abbrev pub two_bytes : ℕ → List ℕ
two_bytes n = n / 256 ∷ n % 256 ∷ []

-- the EPD header: the panel's code, X, Y, the depth, the format, and nine bytes for future use
unfoldable pub header : (panel depth : ℕ) → List ℕ
header panel depth =
    (panel ∷ []) ++ two_bytes (width_of panel) ++ two_bytes (rows_of panel) ++ (depth ∷ format_of panel ∷ []) ++ replicate 9 0
