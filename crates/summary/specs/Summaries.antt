-- Request 2026-05: for every slot the number of black dots and the first and last row with a black dot, or none. All of it is said of the
-- dots of a picture of h rows of b bytes, whichever way a slot keeps them. A 0 is black.
-- Assumes nothing.
use Rattle.std.specs.Prelude.{ℕ, ◌*◌, ◌≤◌, ◌≡◌, Bool, cond, not, List, Option, Some, None, eqb, length, get_or}
use Rattle.panel.specs.Dots.{dot}
use Rattle.counting.specs.Below.{sum_below, count_below, first_below, last_below}
use Rattle.picture.specs.Slots.{slot_picture}
use Rattle.summary.specs.declared.Span.{Span}
use Rattle.summary.specs.declared.Summary.{Summary}

-- ---- one picture

-- the black dots of row y, and of the whole picture
unfoldable pub black_in_row : (b : ℕ) (picture : List ℕ) (y : ℕ) → ℕ
black_in_row b picture y = count_below (8 * b) (λ x. eqb (dot b picture x y) 0)

unfoldable pub black_dots : (b h : ℕ) (picture : List ℕ) → ℕ
black_dots b h picture = sum_below h (black_in_row b picture)

-- row y has a black dot
abbrev pub has_black : (b : ℕ) (picture : List ℕ) (y : ℕ) → Bool
has_black b picture y = not (eqb (black_in_row b picture y) 0)

-- the rows from one to another are given
abbrev pub given : (first last : ℕ) → Option Span
given first last = Some (record { first = first; last = last })

-- a fresh count, the summary of a picture: none is given where no dot is black
unfoldable pub summary_of : (b h : ℕ) (picture : List ℕ) → Summary
summary_of b h picture = record {
  black = black_dots b h picture;
  span = cond (eqb (black_dots b h picture) 0) None (given (first_below h (has_black b picture)) (last_below h (has_black b picture)));
}

-- 0 and none
abbrev pub empty_summary : Summary
empty_summary = record { black = 0; span = None }

-- ---- the slots of a store

-- what a store keeps: it has eight places, and at that of each slot, 0 to n, stands a fresh count of the picture that the slot holds
pub record SummariesFresh (b h : ℕ) (memory : List ℕ) (n : ℕ) (summaries : List Summary) : Type 0 where
  pub places : length summaries ≡ 8
  pub fresh : (slot : ℕ) → slot ≤ n → get_or summaries slot empty_summary ≡ summary_of b h (slot_picture b h memory slot)
