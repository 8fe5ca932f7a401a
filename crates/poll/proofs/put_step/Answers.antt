-- A write's data stand in the file, and are short. Assumes nothing.
use native.Mathlib.Omega.{arith}
use lib.ListN.{drop}
use Rattle.panel.specs.Names.{panel_code}
use Rattle.settings.proofs.Steps.{data_short}
use Rattle.poll.proofs.put_step.Goals as goal

pub put_write-requires : goal.put_write-requires
put_write-requires c =
    let a = c.args in
    let short = data_short (panel_code a.accepted.plan.panel) (drop a.at a.accepted.file.now) c.data_of.ensures in
    (omega (arith, short), omega (arith, short))
