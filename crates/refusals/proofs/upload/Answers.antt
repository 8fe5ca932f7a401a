-- `upload`: a refusal of the slot comes first. Assumes nothing.
use mathlib.Core.List.{[], ◌∷◌}
use Rattle.std.proofs.lemmas.Result.{err_from_is_err_and}
use Rattle.lists.specs.Rules.{case}
use Rattle.store.specs.Refusals.{is_filled, slot_own}
use Rattle.store.proofs.Numbers.{by_first}
use Rattle.refusals.proofs.upload.Goals as goal

pub returns-in_err-write_slot : goal.returns-in_err-write_slot
returns-in_err-write_slot c =
    let a = c.args in
    let p = err_from_is_err_and c.from_residual.result c.from_residual.ensures.1 in
    rw (p.1, p.2) (by_first (slot_own a.store a.slot) (case (is_filled a.store.fill a.slot) 15 ∷ []) _ c.in_err-write_slot.ensures)
