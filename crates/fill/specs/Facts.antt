-- Words of internal contracts.
-- Assumes nothing.
use Rattle.std.specs.Prelude.{cond, ℕ, ltb}
use Rattle.bitmap.specs.Header.{header_length}

-- how many bytes the header or row has that is not whole yet
abbrev pub part_length : (s came : ℕ) → ℕ
part_length s came = cond (ltb came header_length) header_length s
