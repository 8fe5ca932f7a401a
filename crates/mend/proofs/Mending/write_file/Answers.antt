-- One byte more.
-- Assumes nothing.
use native.Mathlib.Omega.{arith}
use lib.ListN.{length-set}
use Rattle.lists.proofs.Lists.{table_more}
use Rattle.mend.specs.Facts.{byte_in}
use Rattle.mend.proofs.Mending.write_file.Goals as goal

pub loop-k-preserved : goal.loop-k-preserved
loop-k-preserved c =
    let m = c.args.self.now in
    let l = c.loop-k in (
      simp length-set (omega arith),
      table_more 0 c.args.out.now (byte_in m) l.out l.k l.k _ l.invariant.1 (omega arith) c.byte.ensures (omega arith),
    )
