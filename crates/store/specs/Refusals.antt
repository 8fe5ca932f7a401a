-- Document 01, "Numbers given back", and the requests 2026-02, "Bitmaps over a slow cable", and 2026-05, "A summary beside each slot": the
-- refusals of an opening, and each call's own after 13 and 1 (Conditions.antt), in order. What is uploaded is judged after them.
-- Assumes nothing.
use Rattle.std.specs.Prelude.{ℕ, Bool, true, false, not, ◌&&◌, List, [], ◌∷◌, ◌++◌, eqb, leb, ltb}
use Rattle.lists.specs.Rules.{Case, case}
use Rattle.panel.specs.Panels.{Sizes}
use Rattle.settings.specs.Settings.{settings_good, shape_in}
use Rattle.bitmap.specs.Header.{file_length}
use Rattle.fill.specs.declared.Fill.{Fill}
use Rattle.run.specs.declared.Phase.{Phase}
use Rattle.run.specs.declared.Phase.TheVariants.{Idle, Abandoned, Running}
use Rattle.slots.specs.Slots.{store_bytes}
use Rattle.store.specs.Conditions.{is_runs_slot}
use Rattle.store.specs.declared.Store.{Store}

-- a slot that takes uploads and starts: 1 to n
abbrev pub takes_pictures : (slots slot : ℕ) → Bool
takes_pictures slots slot = leb 1 slot && leb slot slots

abbrev pub is_running : Phase → Bool
is_running Idle = false
is_running Abandoned = false
is_running (Running run) = true

abbrev pub is_abandoned : Phase → Bool
is_abandoned Idle = false
is_abandoned Abandoned = true
is_abandoned (Running run) = false

-- a slot is the one being filled; and there is one: with none begun the fill's slot is 0
abbrev pub is_filled : Fill → (slot : ℕ) → Bool
is_filled fill slot = eqb fill.slot slot

abbrev pub is_filling : Fill → Bool
is_filling fill = not (eqb fill.slot 0)

-- opening: 2, 1
abbrev pub open_cases : (file : List ℕ) (n memory_length : ℕ) → List Case
open_cases file n memory_length =
    case (not (settings_good file)) 2
    ∷ case (not (leb 1 n && leb n 7 && eqb memory_length (store_bytes (shape_in file) n))) 1
    ∷ []

-- what every call that writes a slot begins with: 3, 7
abbrev pub slot_own : (store : Store) (slot : ℕ) → List Case
slot_own store slot = case (not (takes_pictures store.slots slot)) 3 ∷ case (is_runs_slot store.phase slot) 7 ∷ []

-- uploads: 3, 7, 15
abbrev pub upload_own : (store : Store) (slot : ℕ) → List Case
upload_own store slot = slot_own store slot ++ (case (is_filled store.fill slot) 15 ∷ [])

-- begin: 3, 7, 15, 16
abbrev pub begin_own : (store : Store) (slot : ℕ) → List Case
begin_own store slot = upload_own store slot ++ (case (is_filling store.fill) 16 ∷ [])

-- chunk, finish and cancel: 17
abbrev pub fill_own : (store : Store) → List Case
fill_own store = case (not (is_filling store.fill)) 17 ∷ []

-- start: 8, 12, 3, 15
abbrev pub start_own : (store : Store) (slot : ℕ) → List Case
start_own store slot =
    case (is_running store.phase) 8
    ∷ case (is_abandoned store.phase) 12
    ∷ case (not (takes_pictures store.slots slot)) 3
    ∷ case (is_filled store.fill slot) 15
    ∷ []

-- abandon: 9
abbrev pub abandon_own : (store : Store) → List Case
abandon_own store = case (not (is_running store.phase)) 9 ∷ []

-- the writer: 3, 11
abbrev pub write_own : (store : Store) (shape : Sizes) (slot out_length : ℕ) → List Case
write_own store shape slot out_length =
    case (ltb store.slots slot) 3 ∷ case (ltb out_length (file_length shape.rows shape.stride)) 11 ∷ []

-- the summary of a slot: 3
abbrev pub summary_own : (store : Store) (slot : ℕ) → List Case
summary_own store slot = case (ltb store.slots slot) 3 ∷ []
