-- A number of up to four bytes fits.
-- Assumes nothing.
use Prim.Native.Nat.{◌+◌, ◌-◌}
use native.Mathlib.Omega.{arith}
use Rattle.bitmap.proofs.Numbers.{number_small}
use Rattle.bitmap.proofs.number_at.Goals as goal

pub overflow_mul-n : goal.overflow_mul-n
overflow_mul-n c =
    let a = c.args in
    let i = c.loop-i.i in
    omega (arith, number_small a.file.now (λ k. (c.type_inv.file k).fits) (a.at + a.size - i) i (omega arith))

pub overflow_add-n : goal.overflow_add-n
overflow_add-n c =
    let a = c.args in
    let i = c.loop-i.i in
    omega (arith, number_small a.file.now (λ k. (c.type_inv.file k).fits) (a.at + a.size - i) i (omega arith))
