-- `check_fill`: the store's cases, then whether any slot is being filled. Assumes nothing.
use mathlib.Core.Path.{refl}
use Rattle.std.proofs.lemmas.Result.{err_from_is_err_and}
use Rattle.store.specs.Refusals.{fill_own}
use Rattle.store.proofs.Cases.{first_found, own_found, none_found}
use Rattle.board.specs.State.{file_of, store_cases}
use Rattle.board.proofs.State.check_fill.Goals as goal

pub returns-in_err-plan : goal.returns-in_err-plan
returns-in_err-plan c =
    let a = c.args in
    let p = err_from_is_err_and c.from_residual.result c.from_residual.ensures.1 in
    rw (p.1, p.2) (first_found (file_of a.self) (store_cases a.self a.memory_len) (fill_own a.self.store) _ c.in_err-plan.ensures)

pub returns-in_err-fill : goal.returns-in_err-fill
returns-in_err-fill c =
    let a = c.args in
    let p = err_from_is_err_and c.from_residual-in_err-fill.result c.from_residual-in_err-fill.ensures.1 in
    rw (p.1, p.2)
    (own_found (file_of a.self) (store_cases a.self a.memory_len) (fill_own a.self.store) refl _ c.in_ok-plan.ensures _ c.in_err-fill.ensures)

pub returns : goal.returns
returns c =
    let a = c.args in
    none_found (file_of a.self) (store_cases a.self a.memory_len) (fill_own a.self.store) refl _ c.in_ok-plan.ensures c.in_ok-fill.ensures
