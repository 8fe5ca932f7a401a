-- The entries of the code's table: fields with the sizes of the picture still to be put in.
-- Assumes nothing.
use Rattle.std.specs.Prelude.{ℕ, ◌*◌}
use Rattle.bitmap.specs.declared.Number.{Number}
use Rattle.bitmap.specs.declared.Number.TheVariants.{Fixed, FileLength, Width, Rows, RowsLength}
use Rattle.bitmap.specs.declared.Field.{Field}
use Rattle.bitmap.specs.declared.Entry.{Entry}
use Rattle.bitmap.specs.Header.{file_length, field}

-- the number of an entry, for a picture of h rows of b bytes that are s bytes apart in the file
abbrev pub number_of : (b h s : ℕ) → Number → ℕ
number_of b h s (Fixed number) = number
number_of b h s FileLength = file_length h s
number_of b h s Width = 8 * b
number_of b h s Rows = h
number_of b h s RowsLength = h * s

-- the field that an entry is for such a picture
abbrev pub field_of : (b h s : ℕ) → Entry → Field
field_of b h s entry = field entry.0 entry.1 (number_of b h s entry.2) entry.3
