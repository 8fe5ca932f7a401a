-- A line takes at most 33 characters. Assumes nothing.
use mathlib.Core.Path.{refl, ap}
use mathlib.Core.List.{append_assoc}
use native.Mathlib.Omega.{arith}
use lib.ListN.{length, drop, length-append, length-drop}
use Rattle.panel.specs.Names.{panel_code}
use Rattle.settings.specs.Settings.{steps_of}
use Rattle.settings.proofs.Steps.{size_fits}
use Rattle.listing.specs.Listing.{step_lines}
use Rattle.listing.proofs.Steps.{lines_short, lines_turn, rest_turn}
use Rattle.listing.proofs.put_steps.Goals as goal

pub put_step-next-requires : goal.put_step-next-requires
put_step-next-requires c =
    let a = c.args in
    let p = panel_code a.accepted.plan.panel in
    let s = drop a.at a.accepted.file.now in (
      c.loop.invariant.0,
      omega (
        arith,
        ap length c.loop.invariant.2,
        length-append a.page.now.items (step_lines (steps_of p c.loop.counter s)),
        lines_short p c.loop.counter s,
      ),
    )

pub loop-preserved : goal.loop-preserved
loop-preserved c =
    let a = c.args in
    let p = panel_code a.accepted.plan.panel in
    let l = c.loop in
    let s = drop a.at a.accepted.file.now in
    let put = c.put_step-next.ensures in (
      omega (arith, put.after, size_fits p (drop l.next a.accepted.file.now), length-drop l.next a.accepted.file.now),
      rw put.after (rest_turn p a.accepted.file.now s l.counter l.next l.invariant.1 _ refl),
      rw (lines_turn p a.accepted.file.now s l.counter l.next l.invariant.1, ← append_assoc, ← l.invariant.2) put.line,
    )
