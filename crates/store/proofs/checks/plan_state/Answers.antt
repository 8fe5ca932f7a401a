-- `plan_state`: the file, then the store on it. Assumes nothing.
use Rattle.store.proofs.Conditions.{cut_short, not_accepted, tested}
use Rattle.store.proofs.checks.plan_state.Goals as goal

pub returns-in_err-file : goal.returns-in_err-file
returns-in_err-file c =
    let a = c.args in
    rw c.from_residual.ensures (cut_short a.settings.now a.store c.in_err-file.ensures.lookup.0)

pub returns-in_err-plan : goal.returns-in_err-plan
returns-in_err-plan c =
    let a = c.args in
    rw c.from_residual-in_err-plan.ensures
    (not_accepted a.settings.now a.store c.in_ok-file.ensures.lookup.0.2 c.in_err-plan.ensures.accepted)

pub returns : goal.returns
returns c =
    let a = c.args in
    let part = c.in_ok-file.ensures.lookup.0 in
    rw c.then_some.ensures
    (tested a.settings.now a.store part.2 part.1 _ c.in_ok-plan.ensures.plan c.store_valid.result c.store_valid.ensures)
