-- Document 01, "Store and bitmaps", and request 2026-01: which files are bitmaps of a picture of h rows of b bytes, whose rows are s
-- bytes apart in the file.
-- Assumes nothing.
use Rattle.std.specs.Prelude.{ℕ, Bool, not, List, [], ◌∷◌, map, eqb, length}
use Rattle.lists.specs.Rules.{every, case, first_of}
use Rattle.panel.specs.Panels.{is_panel, rows_of, row_bytes_of, stride_of}
use Rattle.bitmap.specs.Palettes.{palette_of, black_and_white}
use Rattle.bitmap.specs.Header.{file_length, header_fields, field_good}

-- 4: the length is exact, the palette is black and white, and every field holds what it may
unfoldable pub bitmap_good : (b h s : ℕ) (file : List ℕ) → Bool
bitmap_good b h s file =
    every
    (eqb (length file) (file_length h s)
    ∷ black_and_white (palette_of file)
    ∷ map (field_good file) (header_fields b h s))

-- the bitmap check: 14 for the panel, then 4; else 0
unfoldable pub check_bitmap : (panel : ℕ) (file : List ℕ) → ℕ
check_bitmap panel file =
    first_of
    (case (not (is_panel panel)) 14
    ∷ case (not (bitmap_good (row_bytes_of panel) (rows_of panel) (stride_of panel) file)) 4
    ∷ [])
    (λ number. number)
    0
