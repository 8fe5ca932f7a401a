-- Document 01, "Panels": what each panel is, by its number: 0 is the 1.44" panel, 1 the 2" and 2 the 2.7".
-- Only this table knows the three panels. Definitions elsewhere speak of the row bytes, rows, stride and frames of any panel.
-- Assumes nothing.
use Rattle.std.specs.Prelude.{ℕ, ◌*◌, ◌/◌, Bool, [], ◌∷◌, ltb, get_or}

-- a code that names a panel
abbrev pub is_panel : ℕ → Bool
is_panel code = ltb code 3

-- X, the dots of a row
abbrev pub width_of : ℕ → ℕ
width_of panel = get_or (128 ∷ 200 ∷ 264 ∷ []) panel 0

-- Y, the rows
abbrev pub rows_of : ℕ → ℕ
rows_of panel = get_or (96 ∷ 96 ∷ 176 ∷ []) panel 0

-- X / 8, the bytes of a row
abbrev pub row_bytes_of : ℕ → ℕ
row_bytes_of panel = width_of panel / 8

-- P, the bytes of a picture
abbrev pub picture_bytes_of : ℕ → ℕ
picture_bytes_of panel = rows_of panel * row_bytes_of panel

-- N, the frames per stage
abbrev pub frames_of : ℕ → ℕ
frames_of panel = get_or (16 ∷ 16 ∷ 21 ∷ []) panel 0

-- the bytes from one row of a bitmap file to the next
abbrev pub stride_of : ℕ → ℕ
stride_of panel = get_or (16 ∷ 28 ∷ 36 ∷ []) panel 0

-- the sizes of a panel
pub record Sizes : Type 0 where
  pub bytes : ℕ
  pub rows : ℕ
  pub stride : ℕ
  pub frames : ℕ

-- all of them as one value
abbrev pub shape_of : ℕ → Sizes
shape_of panel =
    record { bytes = row_bytes_of panel; rows = rows_of panel; stride = stride_of panel; frames = frames_of panel }
