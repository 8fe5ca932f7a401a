-- `check_write`: the store's cases, then those of the writer. Assumes nothing.
use mathlib.Core.Path.{refl}
use Rattle.std.proofs.lemmas.Result.{err_from_is_err_and}
use Rattle.store.specs.Refusals.{write_own}
use Rattle.store.proofs.Cases.{first_found, own_found, none_found}
use Rattle.board.specs.State.{file_of, sizes_of, store_cases}
use Rattle.board.proofs.Tests.{write_own_of}
use Rattle.board.proofs.State.check_write.Goals as goal

pub returns-in_err-plan : goal.returns-in_err-plan
returns-in_err-plan c =
    let a = c.args in
    let p = err_from_is_err_and c.from_residual.result c.from_residual.ensures.1 in
    rw (p.1, p.2)
    (first_found (file_of a.self) (store_cases a.self a.memory_len) (write_own a.self.store (sizes_of a.self) a.slot a.out_len) _ c.in_err-plan.ensures)

pub returns-in_err-write : goal.returns-in_err-write
returns-in_err-write c =
    let a = c.args in
    let p = err_from_is_err_and c.from_residual-in_err-write.result c.from_residual-in_err-write.ensures.1 in
    let found = c.in_ok-plan.ensures in
    rw (p.1, p.2)
    (own_found (file_of a.self) (store_cases a.self a.memory_len) (write_own a.self.store (sizes_of a.self) a.slot a.out_len) refl _ found _
    (write_own_of a.self a.slot a.out_len c.in_ok-plan.plan found.plan c.in_err-write.ensures))

pub returns : goal.returns
returns c =
    let a = c.args in
    let found = c.in_ok-plan.ensures in
    none_found (file_of a.self) (store_cases a.self a.memory_len) (write_own a.self.store (sizes_of a.self) a.slot a.out_len) refl _ found
    (write_own_of a.self a.slot a.out_len c.in_ok-plan.plan found.plan c.in_ok-write.ensures)
