-- Document 01, "Panels": a picture is its rows, top row first; bit 7 of a row's first byte is dot 0, and a 1 is white.
-- Assumes nothing.
use Rattle.std.specs.Prelude.{ℕ, ◌+◌, ◌-◌, ◌*◌, ◌/◌, ◌%◌, ◌^◌, List, get_or}

-- dot j of a byte, counted from its high bit
abbrev pub bit : (byte j : ℕ) → ℕ
bit byte j = byte / 2 ^ (7 - j) % 2

-- dot x of a row
unfoldable pub row_dot : (row : List ℕ) (x : ℕ) → ℕ
row_dot row x = bit (get_or row (x / 8) 0) (x % 8)

-- dot x of row y of a picture with b bytes a row
unfoldable pub dot : (b : ℕ) (picture : List ℕ) (x y : ℕ) → ℕ
dot b picture x y = bit (get_or picture (y * b + x / 8) 0) (x % 8)
