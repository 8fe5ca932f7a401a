-- Request 2026-02: whether the bytes of a bitmap file that have come so far begin a good file, of a picture of h rows of b bytes whose
-- rows are s bytes apart in the file. Each field of the table, and the palette, is judged by as much of it as has come.
-- Assumes nothing.
use Rattle.std.specs.Prelude.{ℕ, Bool, true, false, ◌&&◌, ◌||◌, List, [], ◌∷◌, map, eqb, leb, length, drop}
use Rattle.lists.specs.Rules.{every}
use Rattle.bitmap.specs.declared.Also.{Also}
use Rattle.bitmap.specs.declared.Also.TheVariants.{Only, Or, OrAnything}
use Rattle.bitmap.specs.declared.Field.{Field}
use Rattle.bitmap.specs.Numbers.{number_bytes}
use Rattle.bitmap.specs.Palettes.{black, white}
use Rattle.bitmap.specs.Header.{file_length, header_fields}

-- two lists of bytes are alike as far as both go
abbrev pub agrees : (bytes other : List ℕ) → Bool
agrees [] other = true
agrees (x ∷ bytes) [] = true
agrees (x ∷ bytes) (y ∷ other) = eqb x y && agrees bytes other

-- what has come of the `size` bytes at an index begins a number
abbrev pub number_begins : (size : ℕ) (bytes : List ℕ) (at number : ℕ) → Bool
number_begins size bytes at number = agrees (drop at bytes) (number_bytes size number)

-- what has come of a field begins something that it may hold besides its own number
abbrev pub also_begins : Also → (size : ℕ) (bytes : List ℕ) (at : ℕ) → Bool
also_begins Only size bytes at = false
also_begins (Or other) size bytes at = number_begins size bytes at other
also_begins OrAnything size bytes at = true

-- what has come of a field begins its own number, or something else that it may hold
abbrev pub field_begins : (bytes : List ℕ) → Field → Bool
field_begins bytes f = number_begins f.size bytes f.at f.number || also_begins f.also f.size bytes f.at

-- what has come of the palette's entries, of three bytes each at 54 and 58, begins two colours
abbrev pub colours_begin : (bytes : List ℕ) (first second : ℕ) → Bool
colours_begin bytes first second = number_begins 3 bytes 54 first && number_begins 3 bytes 58 second

-- it begins black and white, in either order
abbrev pub palette_begins : (bytes : List ℕ) → Bool
palette_begins bytes = colours_begin bytes black white || colours_begin bytes white black

-- what has come of the header begins a good one
unfoldable pub header_begins : (b h s : ℕ) (bytes : List ℕ) → Bool
header_begins b h s bytes = every (palette_begins bytes ∷ map (field_begins bytes) (header_fields b h s))

-- the bytes so far begin a good file: they are no more than a file has, and their header begins a good one
unfoldable pub begins_good : (b h s : ℕ) (bytes : List ℕ) → Bool
begins_good b h s bytes = leb (length bytes) (file_length h s) && header_begins b h s bytes
