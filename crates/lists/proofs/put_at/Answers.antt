-- One byte more is in its place.
-- Assumes nothing.
use mathlib.Core.Path.{◌≡◌, refl}
use native.Mathlib.Omega.{arith}
use lib.ListN.{take, length-set}
use lib.Seq.{take_all}
use Rattle.lists.proofs.Lists.{overlay_at_none, copy_more}
use Rattle.lists.proofs.put_at.Goals as goal

pub loop-i-init : goal.loop-i-init
loop-i-init c =
    let a = c.args in
    (refl, overlay_at_none a.at a.out.now)

pub loop-i-preserved : goal.loop-i-preserved
loop-i-preserved c =
    let a = c.args in
    let l = c.loop-i in (
      simp length-set (omega arith),
      copy_more a.at a.out.now a.bytes.now l.out l.i _ l.invariant.1 refl (omega arith) (omega arith),
    )

pub returns : goal.returns
returns c =
    let bytes = c.args.bytes.now in
    let e : take c.loop-i.i bytes ≡ bytes = take_all c.loop-i.i bytes (omega arith) in
    rw e at c.loop-i.invariant.1
