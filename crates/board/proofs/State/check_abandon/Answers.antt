-- `check_abandon`: where the store's cases refuse nothing, its own decide. Assumes nothing.
use mathlib.Core.Path.{refl}
use Rattle.store.specs.Refusals.{abandon_own}
use Rattle.store.proofs.Numbers.{by_own}
use Rattle.board.specs.State.{store_cases}
use Rattle.board.proofs.State.check_abandon.Goals as goal

pub returns : goal.returns
returns c =
    let a = c.args in
    by_own (store_cases a.self a.memory_len) (abandon_own a.self.store) refl c.in_ok-check.ensures.number_is c.abandon.ensures
