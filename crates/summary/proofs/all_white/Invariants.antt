-- The sixteens that were passed have no black dot: those of the whole sixteens that are left and of the last bytes are all of them.
-- Assumes nothing.
use mathlib.Core.Path.{◌≡◌}
use Prim.Native.Nat.{◌+◌, ◌%◌}
use lib.ListN.{length}
use Rattle.std.specs.List.{sum_by}
use Rattle.std.specs.Slice.Iter.{chunks_exact_rest, chunks_exact_size}
use Rattle.summary.specs.Facts.{black_in_byte}
use Rattle.summary.proofs.all_white.Given as goal

abbrev pub invariant-loop-sixteen : goal.invariant-loop-sixteen
invariant-loop-sixteen l =
    (chunks_exact_size l.sixteen-iterator ≡ 16)
    × (length (chunks_exact_rest l.sixteen-iterator) % 16 ≡ 0)
    × (sum_by black_in_byte (chunks_exact_rest l.sixteen-iterator) + sum_by black_in_byte l.last ≡ sum_by black_in_byte l.fn.bytes)
