-- Text as ASCII bytes.
-- Assumes nothing.
use Rattle.std.specs.Prelude.{ℕ, ◌+◌, ◌/◌, ◌%◌, cond, List, [], ◌∷◌, ◌++◌, ltb}
use Prim.Native.Char.{code}
use Prim.Native.String.{String, [] as end, ◌∷◌ as ◌then◌}

abbrev pub ascii : String → List ℕ
ascii end = []
ascii (c then s) = code c ∷ ascii s

-- the end of a line
abbrev pub newline : List ℕ
newline = 0x0A ∷ []

-- a digit below 16: 0 to 9, then A to F
abbrev pub digit : ℕ → ℕ
digit d = cond (ltb d 10) (48 + d) (55 + d)

-- a byte as two hexadecimal digits
abbrev pub hex_byte : ℕ → List ℕ
hex_byte byte = digit (byte / 16) ∷ digit (byte % 16) ∷ []

-- bytes in hexadecimal, each after a space
abbrev pub spaced_bytes : List ℕ → List ℕ
spaced_bytes [] = []
spaced_bytes (byte ∷ bytes) = ascii " " ++ hex_byte byte ++ spaced_bytes bytes

-- a number below 10,000 in decimal, without leading zeros
abbrev pub decimal : ℕ → List ℕ
decimal n =
    cond (ltb n 10) (digit (n % 10) ∷ [])
    (cond (ltb n 100) (digit (n / 10 % 10) ∷ digit (n % 10) ∷ [])
    (cond (ltb n 1000) (digit (n / 100 % 10) ∷ digit (n / 10 % 10) ∷ digit (n % 10) ∷ [])
    (digit (n / 1000 % 10) ∷ digit (n / 100 % 10) ∷ digit (n / 10 % 10) ∷ digit (n % 10) ∷ [])))
