-- `next_write`: past a wait, at another step, and past all. Assumes nothing.
use mathlib.Core.Path.{◌≡◌, refl, sym, ap, ◌∙◌}
use native.Mathlib.Nat.{sub-zero}
use native.Mathlib.Omega.{arith}
use lib.ListN.{drop}
use Rattle.std.specs.Prelude.{Some}
use Rattle.panel.specs.Names.{panel_code}
use Rattle.settings.specs.Settings.{step_of}
use Rattle.settings.specs.Facts.{kind_of}
use Rattle.settings.specs.declared.Kind.TheVariants.{Wait}
use Rattle.settings.proofs.Steps.{step_wait}
use Rattle.settings.proofs.Waits.{write_no_wait, none_no_wait, waiting_none, waiting_more, found_here, found_none}
use Rattle.settings.proofs.next_write.Goals as goal

pub loop-i-init : goal.loop-i-init
loop-i-init c = rw sub-zero (waiting_none (panel_code c.args.panel) c.args.n c.args.at c.args.file.now c.requires.0)

pub step_at-requires : goal.step_at-requires
step_at-requires c = c.loop-i.invariant.within

pub returns-in-Some-Write : goal.returns-in-Some-Write
returns-in-Some-Write c =
    let w = c.in-Some-Write in
    found_here c.loop-i.invariant c.requires.1 (omega arith) (write_no_wait (ap Some (sym w.field-0-is) ∙ sym w.is ∙ c.step_at.ensures))

pub returns-in-None : goal.returns-in-None
returns-in-None c =
    found_here c.loop-i.invariant c.requires.1 (omega arith) (none_no_wait (sym c.in-None.is ∙ c.step_at.ensures))

pub overflow_add-waits : goal.overflow_add-waits
overflow_add-waits c =
    let w = c.in-Some-Wait in
    let read : Some (Wait w.ms) ≡ kind_of (step_of (panel_code c.args.panel) (drop c.loop-i.at c.args.file.now)) =
    ap Some (sym w.field-0-is) ∙ sym w.is ∙ c.step_at.ensures in
    omega (arith, c.loop-i.invariant.small, (step_wait (panel_code c.args.panel) w.ms _ (sym read)).2)

pub overflow_add-at : goal.overflow_add-at
overflow_add-at c =
    let w = c.in-Some-Wait in
    let more = waiting_more c.loop-i.invariant (omega arith) (ap Some (sym w.field-0-is) ∙ sym w.is ∙ c.step_at.ensures) refl in
    omega (arith, more.within)

pub loop-i-preserved : goal.loop-i-preserved
loop-i-preserved c =
    let w = c.in-Some-Wait in
    rw c.from-waits.ensures
    (waiting_more c.loop-i.invariant (omega arith) (ap Some (sym w.field-0-is) ∙ sym w.is ∙ c.step_at.ensures) (omega arith))

pub returns : goal.returns
returns c = found_none c.loop-i.invariant c.requires.1 (omega arith)
