-- `stop_to_go` meets its contract: the later of the two moments. Assumes nothing.
use Rattle.std.proofs.Common.{drop, ap, arith}
use Rattle.settings.specs.Steps.{waits_before}
use Rattle.settings.proofs.Plans.{frames-is}
use Rattle.run.proofs.Valid.{at-stop}
use Rattle.run.proofs.stop_to_go.Goals as goal

pub waits_from-waits-requires : goal.waits_from-waits-requires
waits_from-waits-requires c =
    let a = c.args in
    (a.accepted.its.stop.readable, omega (arith, (at-stop a.accepted.file.now a.run a.k c.requires.valid).few, a.accepted.its.stop.count_is))

pub overflow_mul-accepted : goal.overflow_mul-accepted
overflow_mul-accepted c = omega arith

pub overflow_add-accepted : goal.overflow_add-accepted
overflow_add-accepted c = omega (arith, c.waits_from-waits.ensures.1)

pub remaining-by_frames-requires : goal.remaining-by_frames-requires
remaining-by_frames-requires c =
    let a = c.args in
    omega (arith, (at-stop a.accepted.file.now a.run a.k c.requires.valid).due, c.requires.order)

pub returns : goal.returns
returns c =
    let entry = c in
    let a = entry.args in
    omega (
      arith,
      ap (λ steps. waits_before (drop a.k steps)) a.accepted.its.stop.steps_are,
      c.waits_from-waits.ensures.0,
      (frames-is a.accepted.its),
      c.remaining-by_frames.ensures,
      c.remaining-by_handed.ensures,
    )
