use mathlib.Core.Path.{refl}
use mathlib.Core.List.{map}
use native.Mathlib.Omega.{arith}
use lib.ListN.{length-set, length-map}
use Rattle.lists.proofs.Lists.{copy_more}
use Rattle.lists.proofs.Elements.{at_map}
use Rattle.picture.specs.Pictures.{turned}
use Rattle.picture.proofs.turn_at.Goals as goal

pub loop-i-preserved : goal.loop-i-preserved
loop-i-preserved c =
    let a = c.args in
    let l = c.loop-i in
    let long = length-map a.bytes.now turned in (
      simp length-set (omega arith),
      rw (at_map turned 0 a.bytes.now l.i 0 (omega arith))
          (copy_more a.at a.out.now (map turned a.bytes.now) l.out l.i _ l.invariant.1 refl (omega (arith, long)) (omega arith)),
    )
