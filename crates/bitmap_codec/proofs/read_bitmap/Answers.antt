-- The rows of the file are read from its end on, into the picture from its top on.
-- Assumes nothing.
use mathlib.Core.Path.{◌≡◌, sym}
use Prim.Native.Nat.{ℕ, ◌+◌, ◌*◌, ◌≤◌, ◌<◌}
use native.Mathlib.Nat.{zero-mul}
use native.Mathlib.Omega.{arith}
use lib.ListN.{length}
use Rattle.lists.proofs.Parts.{more_rows}
use Rattle.picture.specs.Slots.{picture_of}
use Rattle.picture.proofs.Slots.{raw_picture, rows_picture}
use Rattle.bitmap.proofs.Check.{rows_fit, file_fits}
use Rattle.bitmap_codec.proofs.Rows.{read_all, read_next_lem}
use Rattle.bitmap_codec.proofs.read_bitmap.Goals as goal

pub loop-y-init : goal.loop-y-init
loop-y-init c =
    let a = c.args in
    let s = a.shape in (
      rw zero-mul (sym (raw_picture s.bytes s.rows s.some a.raw.now (c.requires.0, λ k. (c.type_inv.raw k).fits))),
      λ k. (c.type_inv.raw k).fits,
    )

pub overflow_mul-j : goal.overflow_mul-j
overflow_mul-j c = rows_fit _ _ (omega arith) (omega arith)

pub overflow_add-j : goal.overflow_add-j
overflow_add-j c = file_fits 62 _ _ (omega arith) (omega arith) (omega arith)

pub put_dots-requires : goal.put_dots-requires
put_dots-requires c =
    let a = c.args in
    let s = a.shape in
    let room : (j : ℕ) → j < s.rows → 62 + j * s.stride + s.bytes ≤ length a.file.now = λ j l. omega (arith, more_rows j s.rows s.stride l) in
    (omega arith, c.loop-y-test.true, room _ (omega arith))

pub loop-y-preserved : goal.loop-y-preserved
loop-y-preserved c =
    let l = c.loop-y in
    let a = c.args in
    let s = a.shape in
    let put = rw c.palette_of-palette.ensures at c.put_dots.ensures in
    let rows = rows_picture s.bytes s.rows s.some a.raw.now (c.requires.0, l.invariant.1) in (
      read_next_lem s.bytes s.rows s.stride s.some s.within a.file.now (λ k. (c.type_inv.file k).fits)
          (picture_of s.bytes s.rows a.raw.now) rows c.requires.1 l.y c.loop-y-test.true l.invariant.0 put,
      l.invariant.1,
    )

pub returns : goal.returns
returns c =
    let l = c.loop-y in
    let a = c.args in
    let s = a.shape in
    let rows = rows_picture s.bytes s.rows s.some a.raw.now (c.requires.0, l.invariant.1) in
    let e : l.y ≡ s.rows = omega arith in
    rw (e, read_all s.bytes s.rows s.stride a.file.now (picture_of s.bytes s.rows a.raw.now) rows.0) at l.invariant.0
