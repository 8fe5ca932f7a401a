-- What each call has tested where it refuses nothing, by name: 13 and 1 here, its own cases in crate store.
-- Assumes nothing.
use mathlib.Core.Path.{◌≡◌, refl, sym, ap, subst, ◌∙◌}
use mathlib.Core.Bool.{true, not}
use mathlib.Core.List.{List}
use Prim.Native.Nat.{ℕ, ◌≤◌}
use native.Mathlib.Omega.{arith}
use borrow.Author.Tests.{eqb-true, ltb-false, eq-eqb, le-ltb, not-false}
use lib.Dec.{eqb}
use lib.ListN.{length}
use Rattle.std.specs.Prelude.{Result, Ok}
use Rattle.lists.specs.Rules.{first_of}
use Rattle.lists.proofs.Rules.{None, none, past, none_of, none_parts}
use Rattle.panel.specs.Panels.{Sizes}
use Rattle.panel.specs.Facts.{sizes}
use Rattle.panel.proofs.Panels.{sized_of}
use Rattle.settings.specs.Plans.{PlanOf}
use Rattle.settings.specs.declared.Plan.{Plan}
use Rattle.picture.specs.Facts.{SlotIn}
use Rattle.picture.proofs.Slots.{slot_in}
use Rattle.bitmap.specs.Header.{file_length}
use Rattle.run.specs.Conditions.{run_valid}
use Rattle.run.specs.declared.Run.{Run}
use Rattle.run.proofs.Valid.{valid}
use Rattle.poll.specs.Facts.{Room}
use Rattle.slots.specs.Slots.{store_bytes}
use Rattle.slots.specs.Facts.{SlotOf}
use Rattle.store.specs.Refusals.{upload_own, fill_own, write_own}
use Rattle.store.specs.Facts.{Found}
use Rattle.store.proofs.Conditions.{valid-state}
use Rattle.store.proofs.Cases.{uploadable, writable}
use Rattle.board.specs.State.{file_of, sizes_of, state_valid, store_cases}
use Rattle.board.specs.Calls.{upload_cases, fill_cases, write_cases, summary_cases}
use Rattle.board.specs.declared.State.{State}

-- ---- 13 and 1

-- what a store that earns neither has
pub record Tested (state : State) (memory_length : ℕ) : Type 0 where
  pub valid : state_valid state ≡ true
  pub exact : memory_length ≡ store_bytes (sizes_of state) state.store.slots

pub tested : (state : State) (memory_length : ℕ) → None (store_cases state memory_length) → Tested state memory_length
tested state memory_length (past e (past f rest)) =
    record { valid = not-false (state_valid state) e; exact = eqb-true memory_length _ (not-false (eqb memory_length _) f) }

pub store_free : (state : State) (memory_length : ℕ) → Tested state memory_length → None (store_cases state memory_length)
store_free state memory_length t = past (ap not t.valid) (past (ap not (eq-eqb memory_length _ t.exact)) none)

-- its slots lie in the memory
pub slot_of : (state : State) (memory_length slot : ℕ) → Tested state memory_length → slot ≤ state.store.slots
    → {plan : Plan} → PlanOf (file_of state) plan → SlotOf (sizes plan.shape) memory_length slot
slot_of state memory_length slot t le {plan} of =
    let v = valid-state t.valid in
    let fits = slot_in (sizes_of state).bytes (sizes_of state).rows state.store.slots memory_length t.exact slot v.few le in
    record {
      sized = sized_of plan.shape;
      slot_in = subst (λ (s : Sizes). SlotIn s.bytes s.rows memory_length slot) (sym of.shape_is) fits;
    }

-- ---- a summary

-- a slot whose summary is told, of a valid state
pub record Told (state : State) (slot : ℕ) : Type 0 where
  pub valid : state_valid state ≡ true
  pub high : slot ≤ state.store.slots

pub told : (state : State) (slot : ℕ) → None (summary_cases state slot) → Told state slot
told state slot (past e (past f rest)) = record { valid = not-false (state_valid state) e; high = ltb-false _ _ f }

pub told_free : (state : State) (slot : ℕ) → Told state slot → None (summary_cases state slot)
told_free state slot t = past (ap not t.valid) (past (le-ltb state.store.slots slot t.high) none)

-- its place is one of eight
pub told_place : (state : State) (slot : ℕ) → 0 ≡ first_of (summary_cases state slot) (λ n. n) 0 → slot ≤ 7
told_place state slot is =
    let t = told state slot (none_of (summary_cases state slot) refl is refl) in
    let few = (valid-state t.valid).few in
    let high = t.high in
    omega arith

pub store_tested : (state : State) (memory_length : ℕ) (plan : Plan) → Found (file_of state) (store_cases state memory_length) (Ok plan)
    → Tested state memory_length
store_tested state memory_length plan found =
    tested state memory_length (none_of (store_cases state memory_length) refl found.number_is refl)

-- the cases of the writer, by the plan's shape
pub write_own_of : (state : State) (slot out_length : ℕ) (plan : Plan) → PlanOf (file_of state) plan → {n : ℕ}
    → n ≡ first_of (write_own state.store (sizes plan.shape) slot out_length) (λ n. n) 0
    → n ≡ first_of (write_own state.store (sizes_of state) slot out_length) (λ n. n) 0
write_own_of state slot out_length plan of e =
    e ∙ ap (λ (s : Sizes). first_of (write_own state.store s slot out_length) (λ n. n) 0) of.shape_is

-- ---- slots that lie in the memory

module _ (state : State) (memory_length : ℕ) (plan : Plan) where
  pub upload_slot : (slot : ℕ) → Found (file_of state) (upload_cases state memory_length slot) (Ok plan) → SlotOf (sizes plan.shape) memory_length slot
  upload_slot slot found =
      let cases = store_cases state memory_length in
      let free = none_parts cases (upload_own state.store slot) (none_of (upload_cases state memory_length slot) refl found.number_is refl) in
      slot_of state memory_length slot (tested state memory_length free.0) (uploadable state.store slot free.1).takes.high found.plan

  pub write_slot : (slot out_length : ℕ) → Found (file_of state) (write_cases state memory_length slot out_length) (Ok plan)
      → (SlotOf (sizes plan.shape) memory_length slot) × (file_length plan.shape.rows plan.shape.stride ≤ out_length)
  write_slot slot out_length found =
      let cases = store_cases state memory_length in
      let own = write_own state.store (sizes_of state) slot out_length in
      let free = none_parts cases own (none_of (write_cases state memory_length slot out_length) refl found.number_is refl) in
      let may = writable state.store (sizes_of state) slot out_length free.1 in (
        slot_of state memory_length slot (tested state memory_length free.0) may.high found.plan,
        subst (λ (s : Sizes). file_length s.rows s.stride ≤ out_length) (sym found.plan.shape_is) may.room,
      )

  -- the slot being filled
  pub fill_slot : Found (file_of state) (fill_cases state memory_length) (Ok plan) → SlotOf (sizes plan.shape) memory_length state.store.fill.slot
  fill_slot found =
      let free = none_parts (store_cases state memory_length) (fill_own state.store) (none_of (fill_cases state memory_length) refl found.number_is refl) in
      let t = tested state memory_length free.0 in
      slot_of state memory_length state.store.fill.slot t (valid-state t.valid).fill_high found.plan

-- and still does in as many bytes
pub slot_still : {shape : Sizes} {l l' slot : ℕ} → SlotOf shape l slot → l' ≡ l → SlotOf shape l' slot
slot_still {shape} {l} {l'} {slot} lies e = rw e lies

-- the slot of a valid run
pub room : (state : State) (run : Run) (memory : List ℕ) → run_valid (file_of state) state.store.slots run ≡ true
    → Tested state (length memory) → Room (file_of state) run memory
room state run memory e t =
    let facts = valid (file_of state) state.store.slots run e in
    let v = valid-state t.valid in
    record {
      low = facts.low;
      slot_in = slot_in (sizes_of state).bytes (sizes_of state).rows state.store.slots (length memory) t.exact run.slot v.few facts.high;
    }
