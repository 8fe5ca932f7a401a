-- The black dots so far and those of the whole sixteens that are left are all of them.
-- Assumes nothing.
use mathlib.Core.Path.{◌≡◌}
use Prim.Native.Nat.{◌+◌, ◌%◌}
use lib.ListN.{length}
use Rattle.std.specs.List.{sum_by}
use Rattle.std.specs.Slice.Iter.{chunks_exact_rest, chunks_exact_size}
use Rattle.summary.specs.Facts.{black_in_byte}
use Rattle.summary.proofs.black_in.Given as goal

abbrev pub invariant-loop-part : goal.invariant-loop-part
invariant-loop-part l =
    (chunks_exact_size l.part-iterator ≡ 16)
    × (length (chunks_exact_rest l.part-iterator) % 16 ≡ 0)
    × (l.black + sum_by black_in_byte (chunks_exact_rest l.part-iterator) ≡ sum_by black_in_byte l.fn.bytes)
