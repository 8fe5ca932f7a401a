-- `after_write` meets its contract: step k - 1 stands where k - 1 steps were passed. Assumes nothing.
use lib.ListN.{drop}
use Rattle.panel.specs.Names.{panel_code}
use Rattle.settings.specs.Settings.{steps_of}
use Rattle.run.proofs.Valid.{first_step, later_step}
use Rattle.run_conditions.proofs.after_write.Goals as goal

pub returns-then-k-eq0 : goal.returns-then-k-eq0
returns-then-k-eq0 c =
    let a = c.args in
    first_step (steps_of (panel_code a.accepted.plan.panel) a.section.count (drop a.section.at a.accepted.file.now)) a.k c.if-k-eq0.true

pub returns : goal.returns
returns c =
    let a = c.args in
    later_step (panel_code a.accepted.plan.panel) a.section.count a.k a.section.at c.steps_end-end.result a.accepted.file.now c.if-k-eq0.false c.requires.1
    c.steps_end-end.ensures.rest c.step_at.ensures c.is_write.ensures
