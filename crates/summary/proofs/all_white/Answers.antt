-- A sixteen is looked at where it stood before the bytes that are left.
-- Assumes nothing.
use mathlib.Core.Path.{◌≡◌, ap, ◌∙◌}
use Prim.Native.Nat.{◌+◌, ◌-◌, ◌%◌}
use native.Mathlib.Omega.{arith}
use lib.ListN.{length, length-append}
use Rattle.std.specs.List.{sum_by}
use Rattle.std.specs.Slice.Iter.{chunks_exact_rest, chunks_exact_size}
use Rattle.std.proofs.lemmas.List.Sums.{sum_by-append, sum_by-take-drop}
use Rattle.summary.specs.Facts.{black_in_byte}
use Rattle.summary.proofs.all_white.Goals as goal

pub loop-sixteen-init : goal.loop-sixteen-init
loop-sixteen-init c =
    let bytes = c.args.bytes.now in
    let n = length bytes - length bytes % 16 in
    let iterator = c.into_iter-sixteen-iterator.result in
    let gives = c.into_iter-sixteen-iterator.ensures.into_iter_gives in
    let rest = ap chunks_exact_rest gives ∙ c.chunks_exact-sixteen-items.ensures.rest in
    let long = ap length rest ∙ c.split_at.ensures.front_len in
    let front = ap (sum_by black_in_byte) (rest ∙ c.split_at.ensures.front) in
    let back = ap (sum_by black_in_byte) c.split_at.ensures.back in
    (ap chunks_exact_size gives ∙ c.chunks_exact-sixteen-items.ensures.size, omega (arith, long), omega (arith, front, back, sum_by-take-drop black_in_byte bytes n))
