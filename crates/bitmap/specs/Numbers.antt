-- Numbers of a bitmap file, low byte first.
-- Assumes nothing.
use Rattle.std.specs.Prelude.{ℕ, zero, suc, ◌+◌, ◌*◌, ◌/◌, ◌%◌, List, [], ◌∷◌, get_or}

-- the number of `size` bytes at an index of a file
abbrev pub number_at : (size : ℕ) (file : List ℕ) (at : ℕ) → ℕ
number_at zero file at = 0
number_at (suc size) file at = get_or file at 0 + 256 * number_at size file (suc at)

-- a number as `size` bytes
abbrev pub number_bytes : (size n : ℕ) → List ℕ
number_bytes zero n = []
number_bytes (suc size) n = n % 256 ∷ number_bytes size (n / 256)
