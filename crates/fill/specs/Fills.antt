-- Request 2026-02, "Bitmaps over a slow cable": what is kept of a bitmap file that comes in chunks, for pictures of h rows of b bytes
-- that are s bytes apart in the file.
-- Assumes nothing.
use Rattle.std.specs.Prelude.{ℕ, ◌-◌, ◌*◌, ◌/◌, ◌%◌, cond, List, ◌++◌, ltb, length, take, drop, replicate, Option, None}
use Rattle.lists.specs.Lists.{overlay}
use Rattle.picture.specs.Slots.{picture_of, raw_of}
use Rattle.bitmap.specs.Header.{header_length}
use Rattle.bitmap.specs.Palettes.{palette_of}
use Rattle.bitmap_codec.specs.Codec.{read_picture}
use Rattle.bitmap.specs.declared.Palette.{Palette}
use Rattle.fill.specs.declared.Fill.{Fill}

-- the slot (0: none is being filled), how many bytes came, the palette once the header has come whole, and the bytes of the header or
-- row that has not
abbrev pub fill_with : (slot came : ℕ) (palette : Option Palette) (kept : List ℕ) → Fill
fill_with slot came palette kept = record { slot = slot; came = came; palette = palette; kept = kept }

-- no byte is kept
abbrev pub none_kept : List ℕ
none_kept = replicate header_length 0

-- a fill of a slot for which no byte has come
abbrev pub begun_fill : (slot : ℕ) → Fill
begun_fill slot = fill_with slot 0 None none_kept

-- the one fixed empty fill
abbrev pub empty_fill : Fill
empty_fill = begun_fill 0

-- of the bytes that came, how many rows they make whole, and how many are of a header or row that is not whole yet
abbrev pub rows_come : (s came : ℕ) → ℕ
rows_come s came = (came - header_length) / s

abbrev pub kept_count : (s came : ℕ) → ℕ
kept_count s came = cond (ltb came header_length) came ((came - header_length) % s)

-- the fill of a slot for which these bytes of a file have come; after the bytes that it keeps there is 0
unfoldable pub fill_of : (s slot : ℕ) (bytes : List ℕ) → Fill
fill_of s slot bytes =
    fill_with slot (length bytes)
    (cond (ltb (length bytes) header_length) None (palette_of bytes))
    (overlay (drop (length bytes - kept_count s (length bytes)) bytes) none_kept)

-- what the slot then holds: the rows that came whole, from the bottom row up, over what was there before
unfoldable pub slot_of : (b h s : ℕ) (bytes raw : List ℕ) → List ℕ
slot_of b h s bytes raw =
    raw_of b h
    (take ((h - rows_come s (length bytes)) * b) (picture_of b h raw)
    ++ drop ((h - rows_come s (length bytes)) * b) (read_picture b h s bytes))
