-- Document 01, "Store and bitmaps": what stands before the rows of a bitmap file, for a picture of h rows of b bytes whose rows
-- are s bytes apart in the file. One table has its fields: the check and the writer read the same one.
-- Assumes nothing.
use Rattle.std.specs.Prelude.{ℕ, ◌+◌, ◌*◌, Bool, true, false, ◌||◌, List, [], ◌∷◌, eqb}
use Rattle.bitmap.specs.declared.Also.{Also}
use Rattle.bitmap.specs.declared.Also.TheVariants.{Only, Or, OrAnything}
use Rattle.bitmap.specs.declared.Field.{Field}
use Rattle.bitmap.specs.Numbers.{number_at}
use Rattle.bitmap.specs.Palettes.{black, white}

-- the bytes before the rows
abbrev pub header_length : ℕ
header_length = 62

abbrev pub file_length : (h s : ℕ) → ℕ
file_length h s = header_length + h * s

-- a field: its index in the file, its bytes, the number that the writer puts there, and what else it may hold
abbrev pub field : (at size number : ℕ) (also : Also) → Field
field at size number also = record { at = at; size = size; number = number; also = also }

-- the fields, in file order, without a gap; the writer puts 0 at 38 to 53, and a palette of black, then white; of its two
-- entries together specs/Palettes.antt says what they may hold
abbrev pub header_fields : (b h s : ℕ) → List Field
header_fields b h s =
    field 0 2 0x4D42 Only  -- BM
    ∷ field 2 4 (file_length h s) Only
    ∷ field 6 4 0 Only
    ∷ field 10 4 header_length Only
    ∷ field 14 4 40 Only
    ∷ field 18 4 (8 * b) Only  -- X
    ∷ field 22 4 h Only  -- Y
    ∷ field 26 2 1 Only
    ∷ field 28 2 1 Only
    ∷ field 30 4 0 Only
    ∷ field 34 4 (h * s) (Or 0)
    ∷ field 38 4 0 OrAnything
    ∷ field 42 4 0 OrAnything
    ∷ field 46 4 0 (Or 2)
    ∷ field 50 4 0 OrAnything
    ∷ field 54 4 black OrAnything  -- the palette
    ∷ field 58 4 white OrAnything
    ∷ []

-- what a field may hold besides its own number
abbrev pub also_good : Also → (found : ℕ) → Bool
also_good Only found = false
also_good (Or other) found = eqb found other
also_good OrAnything found = true

-- a field is good where it holds its own number, or what else it may
abbrev pub field_good : (file : List ℕ) → Field → Bool
field_good file f = eqb (number_at f.size file f.at) f.number || also_good f.also (number_at f.size file f.at)
