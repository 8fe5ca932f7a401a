-- A part is counted where it stood before the bytes that are left.
-- Assumes nothing.
use mathlib.Core.Path.{◌≡◌, ap, ◌∙◌}
use Prim.Native.Nat.{◌+◌, ◌-◌, ◌%◌}
use native.Mathlib.Omega.{arith}
use lib.ListN.{length, length-append}
use Rattle.std.specs.List.{sum_by}
use Rattle.std.specs.Slice.Iter.{chunks_exact_rest, chunks_exact_size}
use Rattle.std.proofs.lemmas.List.Sums.{sum_by-append, sum_by-take-drop}
use Rattle.summary.specs.Facts.{black_in_byte}
use Rattle.summary.proofs.Bytes.{bytes_le}
use Rattle.summary.proofs.black_in.Goals as goal

pub loop-part-init : goal.loop-part-init
loop-part-init c =
    let bytes = c.args.bytes.now in
    let n = length bytes - length bytes % 16 in
    let iterator = c.into_iter-part-iterator.result in
    let gives = c.into_iter-part-iterator.ensures.into_iter_gives in
    let rest = ap chunks_exact_rest gives ∙ c.chunks_exact-part-items.ensures.rest in
    let long = ap length rest ∙ c.split_at.ensures.front_len in
    let front = ap (sum_by black_in_byte) (rest ∙ c.split_at.ensures.front) in
    let back = ap (sum_by black_in_byte) c.split_at.ensures.back in
    let all : c.from-black.result + sum_by black_in_byte (chunks_exact_rest iterator) ≡ sum_by black_in_byte bytes =
    omega (arith, front, back, sum_by-take-drop black_in_byte bytes n) in
    (ap chunks_exact_size gives ∙ c.chunks_exact-part-items.ensures.size, omega (arith, long), all)

pub overflow_add-black : goal.overflow_add-black
overflow_add-black c =
    let whole = ap (sum_by black_in_byte) c.in-Some.ensures.steps.1.0 ∙ sum_by-append black_in_byte c.in-Some.part.now (chunks_exact_rest c.next.new.self) in
    omega (arith, whole, bytes_le c.args.bytes.now)

pub loop-part-preserved : goal.loop-part-preserved
loop-part-preserved c =
    let after = chunks_exact_rest c.next.new.self in
    let steps = c.in-Some.ensures.steps in
    let whole = ap (sum_by black_in_byte) steps.1.0 ∙ sum_by-append black_in_byte c.in-Some.part.now after in
    let long = ap length steps.1.0 ∙ length-append c.in-Some.part.now after in
    let all : c.loop-part.black + c.from-black-in-loop-part.result + sum_by black_in_byte after ≡ sum_by black_in_byte c.args.bytes.now = omega (arith, whole) in
    (omega arith, omega (arith, long, steps.1.1), all)

pub returns : goal.returns
returns c =
    let rest = chunks_exact_rest c.loop-part.part-iterator in
    omega (arith, bytes_le rest, c.in-None.ensures.steps.1.0)
