-- `place_valid` meets its contract, place by place. Assumes nothing.
use mathlib.Core.Path.{sym, ap, ◌∙◌}
use Rattle.run.specs.Conditions.{place_valid}
use Rattle.run_conditions.proofs.place_valid.Goals as goal

pub returns-in-Start : goal.returns-in-Start
returns-in-Start c =
    let a = c.args in
    c.start_valid.ensures ∙ sym (ap (place_valid a.accepted.file.now a.run) c.in-Start.is)

pub returns-in-Line : goal.returns-in-Line
returns-in-Line c =
    let a = c.args in
    c.line_valid.ensures ∙ sym (ap (place_valid a.accepted.file.now a.run) c.in-Line.is)

pub returns-in-Stop : goal.returns-in-Stop
returns-in-Stop c =
    let a = c.args in
    c.stop_valid.ensures ∙ sym (ap (place_valid a.accepted.file.now a.run) c.in-Stop.is)
