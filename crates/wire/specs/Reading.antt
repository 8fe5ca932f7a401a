-- Document 01, "The sums of demand 3": what the bytes that a poll hands out push each dot, read from any bytes at all.
-- Assumes nothing.
use Rattle.std.specs.Prelude.{ℕ, ◌+◌, ◌-◌, ◌*◌, ◌/◌, ◌%◌, ◌^◌, Bool, cond, ◌&&◌, List, eqb, ℤ, pos, negsuc, get_or, drop}
use Rattle.panel.specs.Codes.{black, white}

-- pair k of a byte's two-bit pairs, high pair first
abbrev pub pair_of : (byte k : ℕ) → ℕ
pair_of byte k = byte / 4 ^ (3 - k) % 4

-- the two bits at dot x's place: even dots stand in the even bytes, odd dots in the odd bytes, dot X-1 first
unfoldable pub dot_bits : (b h : ℕ) (line : List ℕ) (x : ℕ) → ℕ
dot_bits b h line x =
    cond (eqb (x % 2) 0)
    (pair_of (get_or line (x / 8) 0) (x % 8 / 2))
    (pair_of (get_or line (b + h / 4 + (8 * b - 1 - x) / 8) 0) ((8 * b - 1 - x) % 8 / 2))

-- the two bits at row y's place in the scan bytes
unfoldable pub scan_bits : (b : ℕ) (line : List ℕ) (y : ℕ) → ℕ
scan_bits b line y = pair_of (get_or line (b + y / 4) 0) (y % 4)

-- what a code counts: +1 for a push to white, -1 for a push to black, 0 for any other
unfoldable pub push_of : (code : ℕ) → ℤ
push_of code = cond (eqb code white) (pos 1) (cond (eqb code black) (negsuc 0) (pos 0))

-- a line is what begins 70 0A 72
abbrev pub is_line : List ℕ → Bool
is_line bytes = eqb (get_or bytes 0 0) 0x70 && eqb (get_or bytes 1 0) 0x0A && eqb (get_or bytes 2 0) 0x72

-- what bytes that were handed out push dot x of row y: a line pushes the dots of the rows whose two scan bits are 11
unfoldable pub pushed : (b h : ℕ) (bytes : List ℕ) (x y : ℕ) → ℤ
pushed b h bytes x y =
    cond (is_line bytes && eqb (scan_bits b (drop 3 bytes) y) 0b11) (push_of (dot_bits b h (drop 3 bytes) x)) (pos 0)
