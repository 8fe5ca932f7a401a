-- The state of a store: its settings, and what changes (crate store, which has the conditions). Assumes nothing.
use Rattle.std.specs.Prelude.{ℕ, Bool, List}
use Rattle.lists.specs.Rules.{Case}
use Rattle.panel.specs.Panels.{Sizes}
use Rattle.settings.specs.Settings.{shape_in}
use Rattle.settings.specs.Kept.{file_in, no_settings, kept_settings}
use Rattle.fill.specs.declared.Fill.{Fill}
use Rattle.summary.specs.declared.Summary.{Summary}
use Rattle.run.specs.declared.Phase.{Phase}
use Rattle.store.specs.Store.{new_store, set_phase, set_fill, set_summaries}
use Rattle.store.specs.Conditions.{keeps_rules, rules_cases, memory_cases}
use Rattle.store.specs.declared.Store.{Store}
use Rattle.board.specs.declared.State.{State}

-- the settings file that a state keeps
abbrev pub file_of : State → List ℕ
file_of state = file_in state.settings

-- the sizes of its panel
abbrev pub sizes_of : State → Sizes
sizes_of state = shape_in (file_of state)

-- a state with another store: with another phase, with another fill, and with other summaries
abbrev pub with_store : State → Store → State
with_store state store = record { settings = state.settings; store = store }

abbrev pub with_phase : State → Phase → State
with_phase state phase = with_store state (set_phase state.store phase)

abbrev pub with_fill : State → Fill → State
with_fill state fill = with_store state (set_fill state.store fill)

abbrev pub with_summaries : State → List Summary → State
with_summaries state summaries = with_store state (set_summaries state.store summaries)

-- it keeps the conditions
abbrev pub state_valid : State → Bool
state_valid state = keeps_rules state.settings state.store

-- the refusals that every call on the store begins with: 13; then, where it is lent the memory, 1
abbrev pub state_cases : (state : State) → List Case
state_cases state = rules_cases state.settings state.store

abbrev pub store_cases : (state : State) (memory_length : ℕ) → List Case
store_cases state = memory_cases state.settings state.store

-- the one fixed empty state of a refused opening
abbrev pub empty_state : State
empty_state = record { settings = no_settings; store = new_store 0 }

-- the state that an accepted opening leaves
abbrev pub opened_state : (file : List ℕ) (n : ℕ) → State
opened_state file n = record { settings = kept_settings file; store = new_store n }
