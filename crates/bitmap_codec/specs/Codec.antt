-- Document 01, "Store and bitmaps", and request 2026-01: the picture of a bitmap file, and the file of a picture, for pictures of h
-- rows of b bytes. After the header come the rows, bottom row first, s bytes apart; the s - b bytes after a row are padding.
-- Assumes nothing.
use Rattle.std.specs.Prelude.{ℕ, ◌+◌, ◌-◌, ◌*◌, ◌/◌, ◌%◌, cond, List, [], ◌∷◌, ◌++◌, ltb, get_or}
use Rattle.lists.specs.Lists.{tabulate}
use Rattle.bitmap.specs.declared.Field.{Field}
use Rattle.bitmap.specs.Numbers.{number_bytes}
use Rattle.bitmap.specs.Palettes.{palette_of, dots_of}
use Rattle.bitmap.specs.Header.{header_length, header_fields}

-- the picture that a file holds, by its palette: byte k stands in picture row k / b, which is file row h - 1 - k / b
unfoldable pub read_picture : (b h s : ℕ) (file : List ℕ) → List ℕ
read_picture b h s file =
    tabulate (h * b) (λ k. dots_of (palette_of file) (get_or file (header_length + ((h - 1 - k / b) * s + k % b)) 0))

-- the numbers of fields, as bytes
abbrev pub fields_bytes : List Field → List ℕ
fields_bytes [] = []
fields_bytes (f ∷ fields) = number_bytes f.size f.number ++ fields_bytes fields

-- what the writer puts before the rows: the number of each field
unfoldable pub header : (b h s : ℕ) → List ℕ
header b h s = fields_bytes (header_fields b h s)

-- the rows of a picture's file, with 0 for the padding
unfoldable pub file_rows : (b h s : ℕ) (picture : List ℕ) → List ℕ
file_rows b h s picture =
    tabulate (h * s) (λ k. cond (ltb (k % s) b) (get_or picture ((h - 1 - k / s) * b + k % s) 0) 0)

-- the file that the writer makes of a picture
unfoldable pub written_file : (b h s : ℕ) (picture : List ℕ) → List ℕ
written_file b h s picture = header b h s ++ file_rows b h s picture

-- the form that a file gets when it is read and written again: the writer's header, the same dots, and 0 for the padding
unfoldable pub normal_form : (b h s : ℕ) (file : List ℕ) → List ℕ
normal_form b h s file =
    header b h s
    ++ tabulate (h * s) (λ k. cond (ltb (k % s) b) (dots_of (palette_of file) (get_or file (header_length + k) 0)) 0)
