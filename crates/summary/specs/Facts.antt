-- Names for parts of internal contracts: black dots counted by the bytes that hold them, in whatever order they lie there, and what the
-- scans for a row find.
-- Assumes nothing.
use Rattle.std.specs.Prelude.{ℕ, ◌+◌, cond, List, Option, Some, None, eqb, get_or}
use Rattle.panel.specs.Dots.{bit}
use Rattle.counting.specs.Below.{sum_below, count_below, first_below, last_below}
use Rattle.summary.specs.Summaries.{black_dots, has_black}

-- the black dots of a byte
unfoldable pub black_in_byte : (byte : ℕ) → ℕ
black_in_byte byte = count_below 8 (λ j. eqb (bit byte j) 0)

-- the black dots of the n bytes from index `at` on
abbrev pub black_from : (bytes : List ℕ) (at n : ℕ) → ℕ
black_from bytes at n = sum_below n (λ k. black_in_byte (get_or bytes (at + k) 0))

-- the first and the last row of a picture with a black dot
module _ (b h : ℕ) (picture : List ℕ) where
  unfoldable pub first_black : Option ℕ
  first_black = cond (eqb (black_dots b h picture) 0) None (Some (first_below h (has_black b picture)))

  unfoldable pub last_black : Option ℕ
  last_black = cond (eqb (black_dots b h picture) 0) None (Some (last_below h (has_black b picture)))
