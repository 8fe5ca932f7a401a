-- The bytes so far are counted.
-- Assumes nothing.
use mathlib.Core.Path.{◌≡◌}
use lib.ListN.{take}
use Rattle.std.specs.List.{sum_by}
use Rattle.summary.specs.Facts.{black_in_byte}
use Rattle.summary.proofs.few_black.Given as goal

abbrev pub invariant-loop-byte : goal.invariant-loop-byte
invariant-loop-byte l = l.black ≡ sum_by black_in_byte (take l.byte-index l.bytes)
