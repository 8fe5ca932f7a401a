-- A good file is read and written again.
-- Assumes nothing.
use mathlib.Core.Path.{sym, ◌∙◌}
use native.Mathlib.Omega.{arith}
use Rattle.bitmap_normal.proofs.Normal.{good_length, refused, rewritten}
use Rattle.bitmap_normal.proofs.normalize.Goals as goal

pub returns-then-not-bitmap_good : goal.returns-then-not-bitmap_good
returns-then-not-bitmap_good c =
    let a = c.args in
    let s = a.shape in
    refused s.bytes s.rows s.stride s.some s.within a.file.now a.out.now (sym c.bitmap_good.ensures ∙ c.if-not-bitmap_good.true)

pub read_bitmap-requires : goal.read_bitmap-requires
read_bitmap-requires c =
    let a = c.args in
    let s = a.shape in
    let l = good_length s.bytes s.rows s.stride a.file.now (sym c.bitmap_good.ensures ∙ c.if-not-bitmap_good.false) in
    (c.requires.0, omega (arith, l))

pub returns : goal.returns
returns c =
    let a = c.args in
    let s = a.shape in
    rewritten s.bytes s.rows s.stride s.some s.within a.file.now a.out.now _ _ _
    (sym c.bitmap_good.ensures ∙ c.if-not-bitmap_good.false)
    (λ i. omega (arith, c.type_inv.file i))
    c.read_bitmap.ensures
    c.write_bitmap.ensures.0
    c.write_bitmap.ensures.1
