-- `laid_out`: the rules in three parts, each of which one function asks. Assumes nothing.
use mathlib.Core.Path.{sym, ◌∙◌}
use Rattle.std.specs.Prelude.{Some}
use Rattle.settings.specs.Facts.{StartPassed}
use Rattle.settings.proofs.Sections.{head_broken, start_broken, laid_out}
use Rattle.settings.proofs.laid_out.Goals as goal

pub returns-then-not-head_good : goal.returns-then-not-head_good
returns-then-not-head_good c = head_broken c.args.file.now (sym c.head_good.ensures ∙ c.if-not-head_good.true)

pub returns-in_err-stop : goal.returns-in_err-stop
returns-in_err-stop c = rw c.from_residual.ensures (start_broken c.args.file.now (sym c.in_err-stop.ensures.good))

pub returns : goal.returns
returns c =
    let start : StartPassed c.args.file.now (Some c.in_ok-stop.stop) = c.in_ok-stop.ensures in
    let head = sym c.head_good.ensures ∙ c.if-not-head_good.false in
    rw c.then_some.ensures (laid_out c.args.file.now start.stop head (sym start.good) c.stop_good.result c.stop_good.ensures)
