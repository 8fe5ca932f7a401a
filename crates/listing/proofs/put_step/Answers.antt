-- The data of a write are at most eight bytes, a wait is at most 1,000 ms, and a step lies in the file. Assumes nothing.
use mathlib.Core.Path.{sym, ap, ◌∙◌}
use native.Mathlib.Omega.{arith}
use lib.ListN.{drop, length-drop}
use Rattle.std.specs.Prelude.{Some}
use Rattle.panel.specs.Names.{panel_code}
use Rattle.settings.specs.Settings.{step_of}
use Rattle.settings.proofs.Steps.{step_wait, data_short, size_fits, kind_some}
use Rattle.listing.proofs.put_step.Goals as goal

pub put_write_line-requires : goal.put_write_line-requires
put_write_line-requires c =
    let a = c.args in
    (omega arith, data_short (panel_code a.accepted.plan.panel) (drop a.at a.accepted.file.now) c.data_of.ensures)

pub put_number_line-requires : goal.put_number_line-requires
put_number_line-requires c =
    let a = c.args in
    let short = (step_wait (panel_code a.accepted.plan.panel) c.in-Wait.ms (drop a.at a.accepted.file.now) (sym c.in-Some.ensures ∙ ap Some c.in-Wait.is)).2 in
    (omega arith, omega arith)

pub overflow_add-after : goal.overflow_add-after
overflow_add-after c =
    let a = c.args in
    let s = drop a.at a.accepted.file.now in
    omega (
      arith,
      c.size.ensures,
      (kind_some (step_of (panel_code a.accepted.plan.panel) s) c.in-Some.ensures).0,
      size_fits (panel_code a.accepted.plan.panel) s,
      length-drop a.at a.accepted.file.now,
    )
