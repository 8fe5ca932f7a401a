-- `check_upload`: the store's cases, then those of an upload. Assumes nothing.
use mathlib.Core.Path.{refl}
use Rattle.std.proofs.lemmas.Result.{err_from_is_err_and}
use Rattle.store.specs.Refusals.{upload_own}
use Rattle.store.proofs.Cases.{first_found, own_found, none_found}
use Rattle.board.specs.State.{file_of, store_cases}
use Rattle.board.proofs.State.check_upload.Goals as goal

pub returns-in_err-plan : goal.returns-in_err-plan
returns-in_err-plan c =
    let a = c.args in
    let p = err_from_is_err_and c.from_residual.result c.from_residual.ensures.1 in
    rw (p.1, p.2) (first_found (file_of a.self) (store_cases a.self a.memory_len) (upload_own a.self.store a.slot) _ c.in_err-plan.ensures)

pub returns-in_err-upload : goal.returns-in_err-upload
returns-in_err-upload c =
    let a = c.args in
    let p = err_from_is_err_and c.from_residual-in_err-upload.result c.from_residual-in_err-upload.ensures.1 in
    rw (p.1, p.2)
    (own_found (file_of a.self) (store_cases a.self a.memory_len) (upload_own a.self.store a.slot) refl _ c.in_ok-plan.ensures _ c.in_err-upload.ensures)

pub returns : goal.returns
returns c =
    let a = c.args in
    none_found (file_of a.self) (store_cases a.self a.memory_len) (upload_own a.self.store a.slot) refl _ c.in_ok-plan.ensures c.in_ok-upload.ensures
