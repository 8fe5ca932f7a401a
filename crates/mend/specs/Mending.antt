-- Request 2026-11: a damaged bitmap file, and the file that it is mended to. The picture has h rows of b bytes; in the file they are s
-- bytes apart. The rules read the table of fields and the palette that the check reads.
-- Assumes nothing.
use Rattle.std.specs.Prelude.{◌≡◌, ℕ, ◌+◌, ◌-◌, ◌*◌, ◌%◌, ◌≤◌, ◌<◌, Bool, cond, not, ◌&&◌, ◌||◌, List, [], ◌∷◌, map, eqb, leb, ltb, length, get_or, take, Option, Some, None}
use Rattle.lists.specs.Lists.{tabulate, overlay_at}
use Rattle.lists.specs.Rules.{every, some}
use Rattle.bitmap.specs.Numbers.{number_bytes}
use Rattle.bitmap.specs.declared.Palette.{Palette}
use Rattle.bitmap.specs.declared.Palette.TheVariants.{BlackFirst, WhiteFirst}
use Rattle.bitmap.specs.Palettes.{palette_of, black_and_white}
use Rattle.bitmap.specs.declared.Field.{Field}
use Rattle.bitmap.specs.Header.{header_length, file_length, header_fields, field_good}

-- ---- what can be mended

-- where the fields that are mended stand: the length, the zeros, the size and the count; each has four bytes
abbrev pub mended_offsets : List ℕ
mended_offsets = 2 ∷ 6 ∷ 34 ∷ 46 ∷ []

abbrev pub is_mended : (at : ℕ) → Bool
is_mended at = some (map (eqb at) mended_offsets)

-- a field that is mended, or good
abbrev pub field_mendable : (file : List ℕ) → Field → Bool
field_mendable file f = is_mended f.at || field_good file f

-- 4: the header is there, nothing follows the file, the palette is black and white, and every field is mended or good
unfoldable pub mendable : (b h s : ℕ) (file : List ℕ) → Bool
mendable b h s file =
    every
    (leb header_length (length file)
    ∷ leb (length file) (file_length h s)
    ∷ black_and_white (palette_of file)
    ∷ map (field_mendable file) (header_fields b h s))

-- ---- the mended file

-- a field that is mended, and wrong
abbrev pub field_damaged : (file : List ℕ) → Field → Bool
field_damaged file f = is_mended f.at && not (field_good file f)

-- the header's bytes, with its own number in a field of the file that is damaged
abbrev pub mend_field : (file : List ℕ) → Field → (header : List ℕ) → List ℕ
mend_field file f header = cond (field_damaged file f) (overlay_at f.at (number_bytes f.size f.number) header) header

abbrev pub mend_fields : (file : List ℕ) → List Field → (header : List ℕ) → List ℕ
mend_fields file [] header = header
mend_fields file (f ∷ fields) header = mend_fields file fields (mend_field file f header)

-- what stands before the rows of the mended file
unfoldable pub mended_header : (b h s : ℕ) (file : List ℕ) → List ℕ
mended_header b h s file = mend_fields file (header_fields b h s) (take header_length file)

-- eight white dots, as a byte of a file with this palette; a file with neither is refused
abbrev pub white_byte : Option Palette → ℕ
white_byte (Some BlackFirst) = 0xFF
white_byte (Some WhiteFirst) = 0x00
white_byte None = 0xFF

-- byte k of the mended file, by its header: after that, padding is 0, a missing byte is white, and any other is as it was
unfoldable pub byte_by : (b s : ℕ) (header : List ℕ) (white : ℕ) (file : List ℕ) (k : ℕ) → ℕ
byte_by b s header white file k =
    cond (ltb k header_length) (get_or header k 0)
    (cond (ltb ((k - header_length) % s) b) (cond (ltb k (length file)) (get_or file k 0) white) 0)

abbrev pub mended_byte : (b h s : ℕ) (file : List ℕ) (k : ℕ) → ℕ
mended_byte b h s file = byte_by b s (mended_header b h s file) (white_byte (palette_of file)) file

abbrev pub mended_file : (b h s : ℕ) (file : List ℕ) → List ℕ
mended_file b h s file = tabulate (file_length h s) (mended_byte b h s file)

-- ---- what theorems say of files

-- a file whose padding is 0
abbrev pub ZeroPadding : (b h s : ℕ) (file : List ℕ) → Type 0
ZeroPadding b h s file = (k : ℕ) → k < h * s → b ≤ k % s → get_or file (header_length + k) 0 ≡ 0

-- a byte that is in none of the fields that are mended, and no padding
abbrev pub elsewhere : (b s k : ℕ) → Bool
elsewhere b s k =
    cond (ltb k header_length)
    (every (map (λ (at : ℕ). leb (k + 1) at || leb (at + 4) k) mended_offsets))
    (ltb ((k - header_length) % s) b)
