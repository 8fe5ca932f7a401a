-- Document 01, "One line on the wire": the bytes of one row, on a panel of b row bytes and h rows, X = 8b dots wide.
-- A row is given as its dots: dot x is `row x`, 1 for white.
-- Assumes nothing.
use Rattle.std.specs.Prelude.{ℕ, ◌+◌, ◌-◌, ◌*◌, ◌/◌, ◌%◌, Bool, cond, List, [], ◌∷◌, ◌++◌, eqb}
use Rattle.lists.specs.Lists.{tabulate}
use Rattle.panel.specs.Codes.{code_of, scan_mark}
use Rattle.wire.specs.Registers.{register_write}

-- four codes of two bits in a byte, high pair first
abbrev pub pack_codes : ℕ → ℕ → ℕ → ℕ → ℕ
pack_codes a b c d = a * 64 + b * 16 + c * 4 + d

-- even byte j carries dots 8j, 8j+2, 8j+4, 8j+6; `code x` is the code of dot x
unfoldable pub even_byte : (code : ℕ → ℕ) (j : ℕ) → ℕ
even_byte code j = pack_codes (code (8 * j)) (code (8 * j + 2)) (code (8 * j + 4)) (code (8 * j + 6))

-- odd byte k carries dots X-1-8k, X-3-8k, X-5-8k, X-7-8k
unfoldable pub odd_byte : (X : ℕ) (code : ℕ → ℕ) (k : ℕ) → ℕ
odd_byte X code k =
    pack_codes (code (X - 1 - 8 * k)) (code (X - 3 - 8 * k)) (code (X - 5 - 8 * k)) (code (X - 7 - 8 * k))

-- one of the two
abbrev pub dots_byte : (odd : Bool) (X : ℕ) (code : ℕ → ℕ) (k : ℕ) → ℕ
dots_byte odd X code k = cond odd (odd_byte X code k) (even_byte code k)

-- for row y, scan byte floor(y/4) is the row's mark; all other scan bytes are 0
unfoldable pub scan_byte : (y i : ℕ) → ℕ
scan_byte y i = cond (eqb i (y / 4)) (scan_mark (y % 4)) 0

-- a line: X/8 even bytes, Y/4 scan bytes, X/8 odd bytes
unfoldable pub line : (b h stage y : ℕ) (row : ℕ → ℕ) → List ℕ
line b h stage y row =
    tabulate b (even_byte (λ x. code_of stage (row x)))
    ++ tabulate (h / 4) (scan_byte y)
    ++ tabulate b (odd_byte (8 * b) (λ x. code_of stage (row x)))

abbrev pub line_length : (b h : ℕ) → ℕ
line_length b h = b + h / 4 + b

-- what is handed out for a line: its write to register 0x0A, and the write 70 02 72 2F after it
unfoldable pub handed_line : (b h stage y : ℕ) (row : ℕ → ℕ) → List ℕ
handed_line b h stage y row = register_write 0x0A (line b h stage y row) ++ register_write 0x02 (0x2F ∷ [])
