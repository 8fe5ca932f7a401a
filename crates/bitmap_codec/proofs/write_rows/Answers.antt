-- The rows are written one after the other, right after the header.
-- Assumes nothing.
use mathlib.Core.Path.{◌≡◌}
use mathlib.Core.List.{List}
use Prim.Native.Nat.{ℕ, ◌*◌}
use native.Mathlib.Nat.{zero-mul}
use native.Mathlib.Omega.{arith}
use lib.ListN.{take}
use lib.Seq.{take_all}
use Rattle.lists.proofs.Lists.{overlay_at_none}
use Rattle.picture.specs.Slots.{picture_of}
use Rattle.picture.proofs.Slots.{rows_picture}
use Rattle.lists.proofs.Parts.{more_rows}
use Rattle.bitmap.specs.Header.{header_length}
use Rattle.bitmap_codec.specs.Codec.{file_rows}
use Rattle.bitmap.proofs.Check.{rows_fit, file_fits}
use Rattle.bitmap_codec.proofs.Rows.{row_next}
use Rattle.bitmap_codec.proofs.RoundTrip.{length-rows}
use Rattle.bitmap_codec.proofs.write_rows.Goals as goal

pub loop-j-init : goal.loop-j-init
loop-j-init c = rw zero-mul (overlay_at_none header_length c.args.out.now)

pub overflow_mul-j : goal.overflow_mul-j
overflow_mul-j c = rows_fit c.loop-j.j c.args.shape.stride (omega arith) (omega arith)

pub overflow_add-j : goal.overflow_add-j
overflow_add-j c = file_fits 62 c.loop-j.j c.args.shape.stride (omega arith) (omega arith) (omega arith)

pub write_row-requires : goal.write_row-requires
write_row-requires c =
    let s = c.args.shape in
    (omega arith, c.requires.0, omega (arith, more_rows c.loop-j.j s.rows s.stride c.loop-j-test.true))

pub loop-j-preserved : goal.loop-j-preserved
loop-j-preserved c =
    let l = c.loop-j in
    let a = c.args in
    let s = a.shape in
    let rows = rows_picture s.bytes s.rows s.some a.raw.now (c.requires.0, λ k. (c.type_inv.raw k).fits) in
    row_next s.bytes s.rows s.stride s.within (picture_of s.bytes s.rows a.raw.now) rows.0 l.j c.loop-j-test.true
    a.out.now c.requires.1 l.invariant c.write_row.ensures

pub returns : goal.returns
returns c =
    let a = c.args in
    let s = a.shape in
    let picture : List ℕ = picture_of s.bytes s.rows a.raw.now in
    let rows : List ℕ = file_rows s.bytes s.rows s.stride picture in
    let e : c.loop-j.j ≡ s.rows = omega arith in
    let all : take (s.rows * s.stride) rows ≡ rows = take_all (s.rows * s.stride) rows (omega (arith, length-rows s.bytes s.rows s.stride picture)) in
    rw (e, all) at c.loop-j.invariant
