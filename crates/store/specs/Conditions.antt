-- The conditions that a state keeps, over its settings and its store; docs/STATE.md says them in words. Their breach earns 13.
-- Assumes nothing.
use Rattle.std.specs.Prelude.{ℕ, Bool, true, false, not, List, [], ◌∷◌, ◌++◌, eqb, leb, length}
use Rattle.lists.specs.Rules.{every, Case, case}
use Rattle.panel.specs.Panels.{Sizes}
use Rattle.settings.specs.Settings.{settings_good, shape_in}
use Rattle.settings.specs.Kept.{file_in}
use Rattle.settings.specs.declared.Settings.{Settings}
use Rattle.fill.specs.Conditions.{fill_valid}
use Rattle.summary.specs.Conditions.{summaries_good}
use Rattle.run.specs.Conditions.{run_valid}
use Rattle.run.specs.declared.Phase.{Phase}
use Rattle.run.specs.declared.Phase.TheVariants.{Idle, Abandoned, Running}
use Rattle.slots.specs.Slots.{store_bytes}
use Rattle.store.specs.declared.Store.{Store}

-- a run under way is valid
abbrev pub phase_valid : (file : List ℕ) (slots : ℕ) → Phase → Bool
phase_valid file slots Idle = true
phase_valid file slots Abandoned = true
phase_valid file slots (Running run) = run_valid file slots run

-- a slot is that of the run under way
abbrev pub is_runs_slot : Phase → (slot : ℕ) → Bool
is_runs_slot Idle slot = false
is_runs_slot Abandoned slot = false
is_runs_slot (Running run) slot = eqb run.slot slot

-- the slot being filled, 0 where there is none, is one of the store's and not that of the run; and the fill is valid
abbrev pub fill_rules : (shape : Sizes) → Store → List Bool
fill_rules shape store =
    leb store.fill.slot store.slots
    ∷ not (is_runs_slot store.phase store.fill.slot)
    ∷ fill_valid shape.bytes shape.rows shape.stride store.fill
    ∷ []

-- what is kept of the slots: the fill keeps its rules, and so do the summaries of slots 0 to n
abbrev pub slot_rules : (shape : Sizes) → Store → List Bool
slot_rules shape store =
    fill_rules shape store ++ (summaries_good shape.bytes shape.rows store.slots store.summaries ∷ [])

-- there are 1 to 7 slots beside slot 0, the phase is valid, and so is what is kept of the slots
abbrev pub store_rules : (file : List ℕ) → Store → List Bool
store_rules file store =
    leb 1 store.slots
    ∷ leb store.slots 7
    ∷ phase_valid file store.slots store.phase
    ∷ slot_rules (shape_in file) store

-- the file is whole and accepted, and so is the store on it
abbrev pub state_rules : Settings → Store → List Bool
state_rules settings store =
    leb settings.len (length settings.file)
    ∷ settings_good (file_in settings)
    ∷ store_rules (file_in settings) store

unfoldable pub keeps_rules : Settings → Store → Bool
keeps_rules settings store = every (state_rules settings store)

-- the refusals that every call on the store begins with: 13; then, where it is lent the memory, 1
abbrev pub rules_cases : Settings → Store → List Case
rules_cases settings store = case (not (keeps_rules settings store)) 13 ∷ []

abbrev pub memory_cases : Settings → Store → (memory_length : ℕ) → List Case
memory_cases settings store memory_length =
    rules_cases settings store
    ++ (case (not (eqb memory_length (store_bytes (shape_in (file_in settings)) store.slots))) 1 ∷ [])
