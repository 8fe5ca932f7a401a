-- `check_store`: a valid state has at most 7 slots. Assumes nothing.
use Rattle.std.proofs.Common.{sym, ◌∙◌}
use Rattle.store.proofs.Conditions.{valid-state}
use Rattle.store.proofs.checks.check_store.Goals as goal

pub store_bytes-requires : goal.store_bytes-requires
store_bytes-requires c = (valid-state (sym (c.in_ok-plan.ensures.variant ∙ c.plan_state.ensures.good))).few
