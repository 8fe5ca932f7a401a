-- `summary`, by what was found. Assumes nothing.
use mathlib.Core.Path.{refl}
use Rattle.board.proofs.Tests.{told_place}
use Rattle.board.proofs.Replies.{some_refused, summary-refused, summary-told}
use Rattle.board.proofs.State.summary.Goals as goal

pub summary_at-requires : goal.summary_at-requires
summary_at-requires c = told_place c.args.self c.args.slot c.in-Ok.ensures

pub returns-in-Ok : goal.returns-in-Ok
returns-in-Ok c = summary-told c.args.self c.args.slot c.in-Ok.ensures c.summary_at.ensures refl

pub returns-in-Err : goal.returns-in-Err
returns-in-Err c =
    let a = c.args in
    rw c.number.ensures (summary-refused a.self a.slot c.in-Err.ensures c.empty_summary.ensures (some_refused c.in-Err.refusal))
