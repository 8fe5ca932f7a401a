-- `begin`: a refusal of the upload comes first. Assumes nothing.
use mathlib.Core.List.{[], ◌∷◌}
use Rattle.std.proofs.lemmas.Result.{err_from_is_err_and}
use Rattle.lists.specs.Rules.{case}
use Rattle.store.specs.Refusals.{is_filling, upload_own}
use Rattle.store.proofs.Numbers.{by_first}
use Rattle.refusals.proofs.begin.Goals as goal

pub returns-in_err-upload : goal.returns-in_err-upload
returns-in_err-upload c =
    let a = c.args in
    let p = err_from_is_err_and c.from_residual.result c.from_residual.ensures.1 in
    rw (p.1, p.2) (by_first (upload_own a.store a.slot) (case (is_filling a.store.fill) 16 ∷ []) _ c.in_err-upload.ensures)
