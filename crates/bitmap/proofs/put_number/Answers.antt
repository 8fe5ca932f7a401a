-- One byte more, and what is left after it.
-- Assumes nothing.
use mathlib.Core.Path.{◌≡◌, refl}
use Prim.Native.Nat.{◌-◌, ◌+◌}
use native.Mathlib.Omega.{arith}
use lib.ListN.{length-set}
use Rattle.lists.proofs.Lists.{overlay_at_none}
use Rattle.bitmap.proofs.Numbers.{left_next, number_more}
use Rattle.bitmap.proofs.put_number.Goals as goal

pub loop-i-init : goal.loop-i-init
loop-i-init c =
    let a = c.args in
    let e : a.at - a.at ≡ 0 = omega arith in
    (rw e (omega arith), refl, rw e (overlay_at_none a.at a.out.now))

pub loop-i-preserved : goal.loop-i-preserved
loop-i-preserved c =
    let a = c.args in
    let l = c.loop-i in
    let j = l.i - a.at in
    let e : l.i + 1 - a.at ≡ j + 1 = omega arith in
    rw e (
      left_next a.n l.left j l.invariant.0,
      simp length-set (omega arith),
      number_more a.at a.out.now l.out j l.i a.n l.left l.invariant.2 (omega arith) l.invariant.0 (omega arith),
    )

pub returns : goal.returns
returns c =
    let a = c.args in
    let e : c.loop-i.i - a.at ≡ a.size = omega arith in
    rw e at c.loop-i.invariant.2
