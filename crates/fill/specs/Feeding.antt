-- Request 2026-02: what the bytes of a chunk do to a fill and to the slot that it fills.
-- Assumes nothing.
use Rattle.std.specs.Prelude.{ℕ, ◌+◌, ◌-◌, ◌*◌, cond, List, [], ◌∷◌, map, eqb, length, take, Option}
use Rattle.lists.specs.Lists.{overlay_at}
use Rattle.picture.specs.Slots.{picture_of, raw_of}
use Rattle.bitmap.specs.Header.{header_length}
use Rattle.bitmap.specs.Palettes.{palette_of, dots_of}
use Rattle.bitmap.specs.declared.Palette.{Palette}
use Rattle.fill.specs.Fills.{fill_with, none_kept, rows_come, kept_count}
use Rattle.fill.specs.declared.Fill.{Fill}

-- bytes are counted, and kept after those of the same header or row
abbrev pub keeping : (s : ℕ) (fill : Fill) (piece : List ℕ) → Fill
keeping s fill piece =
    fill_with fill.slot (fill.came + length piece) fill.palette (overlay_at (kept_count s fill.came) piece fill.kept)

-- a slot with a row of a file in row y of its picture; the palette says the row's dots
abbrev pub with_row : (b h : ℕ) (palette : Option Palette) (y : ℕ) (row raw : List ℕ) → List ℕ
with_row b h palette y row raw = raw_of b h (overlay_at (y * b) (map (dots_of palette) (take b row)) (picture_of b h raw))

-- no byte is kept any more
abbrev pub emptied : (fill : Fill) (palette : Option Palette) → Fill
emptied fill palette = fill_with fill.slot fill.came palette none_kept

-- what is kept is whole: the header says the palette, and a row is written; rows come from the bottom row up
unfoldable pub completed : (b h s : ℕ) (fill : Fill) (raw : List ℕ) → Fill × List ℕ
completed b h s fill raw =
    cond (eqb fill.came header_length)
    (emptied fill (palette_of fill.kept), raw)
    (emptied fill fill.palette, with_row b h fill.palette (h - rows_come s fill.came) fill.kept raw)

-- bytes of one header or row, and no more than it lacks: with the last one it is whole
unfoldable pub piece_fed : (b h s : ℕ) (fill : Fill) (raw piece : List ℕ) → Fill × List ℕ
piece_fed b h s fill raw piece =
    let more = keeping s fill piece in
    cond (eqb (kept_count s more.came) 0) (completed b h s more raw) (more, raw)

-- a chunk is so many pieces of one byte
abbrev pub bytes_fed : (b h s : ℕ) (here : Fill × List ℕ) (chunk : List ℕ) → Fill × List ℕ
bytes_fed b h s here [] = here
bytes_fed b h s here (byte ∷ chunk) = bytes_fed b h s (piece_fed b h s here.0 here.1 (byte ∷ [])) chunk
