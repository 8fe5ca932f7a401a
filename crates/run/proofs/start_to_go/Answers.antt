-- `start_to_go` meets its contract. Assumes nothing.
use Rattle.std.proofs.Common.{drop, ap, arith}
use Rattle.run.proofs.Valid.{at-start}
use Rattle.settings.specs.Steps.{waits_before}
use Rattle.run.proofs.start_to_go.Goals as goal

pub waits_from-waits-requires : goal.waits_from-waits-requires
waits_from-waits-requires c =
    let a = c.args in
    (a.accepted.its.start.readable, omega (arith, (at-start a.accepted.file.now a.run a.k c.requires.valid).few, a.accepted.its.start.count_is))

pub returns : goal.returns
returns c =
    let a = c.args in
    omega (
      arith,
      ap (λ steps. waits_before (drop a.k steps)) a.accepted.its.start.steps_are,
      c.waits_from-waits.ensures.0,
      c.remaining.ensures,
    )
