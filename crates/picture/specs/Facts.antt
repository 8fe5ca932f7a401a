-- What internal functions ask of the lent memory, and of the dots that they are given.
-- Assumes nothing.
use Rattle.std.specs.Prelude.{ℕ, ◌+◌, ◌*◌, ◌<◌, ◌≤◌}

-- a slot of h rows of b bytes lies in a memory of this length
pub record SlotIn (b h memory_length slot : ℕ) : Type 0 where
  pub few : slot ≤ 7
  pub fits : slot * (h * b) + h * b ≤ memory_length

-- the n dots of a row from dot x on fill none of its bytes: of byte k, dots 8k to 8k + 7, either the first or the last is not among them
abbrev pub FillNoByte : (x n : ℕ) → Type 0
FillNoByte x n = (k : ℕ) → x ≤ 8 * k → x + n < 8 * k + 8
