-- Request 2026-01: a bit of a row is an index into the two entries of the palette, at 54 and 58. The first three bytes of an
-- entry are its colour, and the fourth is free. `palette_of` is the one reading of a file's palette: `BlackFirst` is black, then
-- white; `WhiteFirst` is white, then black; none is any other.
-- Assumes nothing.
use Rattle.std.specs.Prelude.{ℕ, Bool, is_some, cond, ◌&&◌, List, eqb, Option, Some, None}
use Rattle.picture.specs.Pictures.{turned}
use Rattle.bitmap.specs.Numbers.{number_at}
use Rattle.bitmap.specs.declared.Palette.{Palette}
use Rattle.bitmap.specs.declared.Palette.TheVariants.{BlackFirst, WhiteFirst}

-- the two colours, as numbers of three bytes
abbrev pub black : ℕ
black = 0x000000

abbrev pub white : ℕ
white = 0xFFFFFF

-- the palette of two colours
unfoldable pub palette_from : (first second : ℕ) → Option Palette
palette_from first second =
    cond (eqb first black && eqb second white) (Some BlackFirst)
    (cond (eqb first white && eqb second black) (Some WhiteFirst) None)

-- the palette of a file
abbrev pub palette_of : (file : List ℕ) → Option Palette
palette_of file = palette_from (number_at 3 file 54) (number_at 3 file 58)

-- the palettes that a bitmap may have
abbrev pub black_and_white : Option Palette → Bool
black_and_white palette = is_some palette

-- the dots of a row's byte, 1 for white: its bits where black is first, and each turned over where white is; a file with
-- neither is refused, and its bits would stay
abbrev pub dots_of : Option Palette → (byte : ℕ) → ℕ
dots_of (Some BlackFirst) byte = byte
dots_of (Some WhiteFirst) byte = turned byte
dots_of None byte = byte
