-- `write`: a slot that is not there comes first. Assumes nothing.
use mathlib.Core.List.{[], ◌∷◌}
use lib.Dec.{ltb}
use Rattle.std.proofs.lemmas.Result.{err_from_is_err_and}
use Rattle.lists.specs.Rules.{case}
use Rattle.bitmap.specs.Header.{file_length}
use Rattle.store.specs.Refusals.{summary_own}
use Rattle.store.proofs.Numbers.{by_first}
use Rattle.refusals.proofs.write.Goals as goal

pub returns-in_err-summary : goal.returns-in_err-summary
returns-in_err-summary c =
    let a = c.args in
    let p = err_from_is_err_and c.from_residual.result c.from_residual.ensures.1 in
    rw (p.1, p.2)
    (by_first (summary_own a.store a.slot) (case (ltb a.out_len (file_length a.shape.rows a.shape.stride)) 11 ∷ []) _ c.in_err-summary.ensures)
