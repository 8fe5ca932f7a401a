-- What internal functions say: a state by its parts, and what a poll leaves.
-- Assumes nothing.
use Rattle.std.specs.Prelude.{ℕ}
use Rattle.settings.specs.declared.Settings.{Settings}
use Rattle.poll.specs.declared.Handed.{Handed}
use Rattle.store.specs.Store.{set_phase, set_summaries}
use Rattle.store.specs.declared.Store.{Store}
use Rattle.board.specs.Calls.{summaries_after}
use Rattle.board.specs.declared.State.{State}
use Rattle.board.specs.declared.runs.Left.{Left}

abbrev pub state_of : Settings → Store → State
state_of settings store = record { settings = settings; store = store }

-- what a poll of a run leaves of the store
abbrev pub left_by : Store → (slot : ℕ) → Handed → Left
left_by store slot handed = record {
  answer = handed.answer;
  store = set_summaries (set_phase store handed.phase) (summaries_after handed.answer slot store.summaries);
}
