-- Every summary equals a fresh count, over every list of calls since an accepted opening.
-- Assumes nothing.
use mathlib.Core.Path.{◌≡◌, refl, sym, ap, ◌∙◌, subst}
use mathlib.Core.Bool.{Bool, true}
use mathlib.Core.List.{List, [], ◌∷◌}
use Prim.Native.Nat.{ℕ, ◌≤◌}
use lib.ListN.{length, get_or}
use Rattle.lists.proofs.Rules.{by_test, taken}
use Rattle.settings.specs.Settings.{row_bytes_in, rows_in}
use Rattle.picture.specs.Slots.{slot_bytes, with_bytes, slot_picture}
use Rattle.picture.proofs.Slots.{with_own}
use Rattle.fill_calls.specs.declared.Fed.{Fed}
use Rattle.summary.specs.Summaries.{summary_of, empty_summary, SummariesFresh}
use Rattle.summary.specs.declared.Summary.{Summary}
use Rattle.summary.proofs.Kept.{fresh_opened, fresh_written, fresh_drawn, fresh_copied}
use Rattle.run.proofs.Valid as runs
use Rattle.slots.specs.Slots.{counted_in, on_slot}
use Rattle.store.proofs.Conditions.{valid-state, run_of}
use Rattle.board.specs.State.{file_of, sizes_of, state_valid}
use Rattle.board.specs.Calls.{opening, summary_cases, summarised, slot_summary}
use Rattle.board.specs.History.{Call, Called, call_on, memory_after}
use Rattle.board.specs.declared.State.{State}
use Rattle.board.specs.declared.Reply.{Reply}
use Rattle.board.proofs.Tests.{Tested, told_free}
use Rattle.board.proofs.Effects as effects
use Rattle.board.proofs.Effects.{Effect, Fills, filled_to, polled_to, effect}
use Rattle.board.proofs.Filled.{act_unwritten, sized, filled_inside, filled_others}
use Rattle.board.proofs.Opening.{opened, opened_file_lem}
use Rattle.theorems.specs.Progress.{state_after}
use Rattle.theorems.specs.Summaries.{Summarises, SummariesHold}
use Rattle.theorems.proofs.Handed.{by_handed}
use Rattle.theorems.proofs.Kept.{all_valid, opened_valid}

-- ---- one call

-- a store of this settings file and these slots, whose summaries are fresh
record Fresh (file : List ℕ) (n : ℕ) (state : State) (memory : List ℕ) : Type 0 where
  pub file_is : file_of state ≡ file
  pub slots_are : state.store.slots ≡ n
  pub counts : SummariesFresh (row_bytes_in file) (rows_in file) memory n state.store.summaries

module _ (state : State) (memory : List ℕ) where
  abbrev b : ℕ
  b = (sizes_of state).bytes

  abbrev h : ℕ
  h = (sizes_of state).rows

  abbrev n : ℕ
  n = state.store.slots

  abbrev held : List Summary
  held = state.store.summaries

  abbrev Still : Called → Type 0
  Still called = Fresh (file_of state) n called.state called.memory

  module _ (f : SummariesFresh b h memory n held) where
    few : Tested state (length memory) → n ≤ 7
    few t = (valid-state t.valid).few

    -- a call of a fill wrote its slot and counted it, or left both
    filled_fresh : {call : Call} {act : List ℕ → Fed × List ℕ} {writes : Fed → Bool} → Fills (sizes_of state) state.store.fill call act writes
        → (t : Tested state (length memory))
        → SummariesFresh b h (filled_to state memory call act writes).memory n (filled_to state memory call act writes).state.store.summaries
    filled_fresh {call} {act} {writes} kind t =
        let slot = state.store.fill.slot in
        let raw : List ℕ = slot_bytes b h memory slot in
        let d = on_slot (sizes_of state) memory slot act in
        let high = (valid-state t.valid).fill_high in
        by_test (SummariesFresh b h d.1 n) (writes d.0) (counted_in (sizes_of state) d.1 slot held) held
        (λ w. fresh_written b h n (few t) memory held f d.1 slot high (filled_others state memory t kind))
        (λ w.
        let same : (act raw).1 ≡ raw = act_unwritten kind (sized state memory t) raw w in
        let kept : memory ≡ d.1 =
        sym (ap (with_bytes b h memory slot) same ∙ with_own b h memory slot (filled_inside state memory t)) in
        subst (λ (m : List ℕ). SummariesFresh b h m n held) kept f)

    stays_fresh : {call : Call} {called : Called} → Effect state memory call called → Still called
    stays_fresh (effects.refuses call given e) = record { file_is = refl; slots_are = refl; counts = f }
    stays_fresh (effects.reads call out' e t) = record { file_is = refl; slots_are = refl; counts = f }
    stays_fresh (effects.tells slot told t) = record { file_is = refl; slots_are = refl; counts = f }
    stays_fresh (effects.draws call slot picture e t may long) =
        record {
          file_is = refl;
          slots_are = refl;
          counts = fresh_drawn b h n (few t) memory held f t.exact slot may.takes.high picture long;
        }
    stays_fresh (effects.begins slot t may) = record { file_is = refl; slots_are = refl; counts = f }
    stays_fresh (effects.fills call act writes kind t is) =
        record { file_is = refl; slots_are = refl; counts = filled_fresh kind t }
    stays_fresh (effects.starts slot tick t may) = record { file_is = refl; slots_are = refl; counts = f }
    stays_fresh (effects.abandons t is) = record { file_is = refl; slots_are = refl; counts = f }
    stays_fresh (effects.waits tick out run moment at before) = record { file_is = refl; slots_are = refl; counts = f }
    stays_fresh (effects.hands tick out run moment at due) =
        let t = at.tests in
        let high = (runs.valid (file_of state) n run (run_of (valid-state t.valid) at.runs)).high in
        by_handed (file_of state) run tick moment memory out (λ o. Still (polled_to state memory run tick out o))
        (λ step next. record { file_is = refl; slots_are = refl; counts = f }) (λ first stage frame row. record { file_is = refl; slots_are = refl; counts = f })
        (record {
          file_is = refl;
          slots_are = refl;
          counts = fresh_copied b h n (few t) memory held f t.exact run.slot high;
        })
        run.next

-- ---- every list of calls

module _ (file : List ℕ) (n₁ : ℕ) where
  one_fresh : (state : State) (memory : List ℕ) (call : Call) → Fresh file n₁ state memory
      → Fresh file n₁ (call_on state memory call).state (call_on state memory call).memory
  one_fresh state memory call f =
      subst
      (λ (k : ℕ). SummariesFresh (row_bytes_in file) (rows_in file) memory k state.store.summaries → After file k) f.slots_are
      (subst
      (λ (l : List ℕ). SummariesFresh (row_bytes_in l) (rows_in l) memory state.store.slots state.store.summaries → After l state.store.slots)
      f.file_is (λ counts. stays_fresh state memory counts (effect state memory call)))
      f.counts
    where
      After : List ℕ → ℕ → Type 0
      After l k = Fresh l k (call_on state memory call).state (call_on state memory call).memory

  all_fresh : (state : State) (memory : List ℕ) (calls : List Call) → Fresh file n₁ state memory
      → Fresh file n₁ (state_after state memory calls) (memory_after state memory calls)
  all_fresh state memory [] f = f
  all_fresh state memory (call ∷ calls) f =
      all_fresh (call_on state memory call).state (call_on state memory call).memory calls (one_fresh state memory call f)

  -- what the call for a summary gives
  summarises : (state : State) (memory : List ℕ) → state_valid state ≡ true → Fresh file n₁ state memory
      → Summarises (row_bytes_in file) (rows_in file) n₁ state memory
  unfolding slot_summary
  summarises state memory valid f = record { fresh = f.counts; told = told }
    where
      told : (slot : ℕ) → slot ≤ n₁
          → slot_summary state slot
          ≡ summarised 0 (summary_of (row_bytes_in file) (rows_in file) (slot_picture (row_bytes_in file) (rows_in file) memory slot)) state
      told slot high =
          taken (summary_cases state slot) (λ number. summarised number empty_summary state)
          (summarised 0 (get_or state.store.summaries slot empty_summary) state)
          (told_free state slot (record { valid = valid; high = subst (λ (k : ℕ). slot ≤ k) (sym f.slots_are) high }))
          ∙ ap (λ (s : Summary). summarised 0 s state) (f.counts.fresh slot high)

-- ---- since an accepted opening

opened_fresh : (file : List ℕ) (n : ℕ) (lent : List ℕ) → (opening file n lent).0.number ≡ 0
    → Fresh file n (opening file n lent).0.state (opening file n lent).1
opened_fresh file n lent accepted =
    let o = opened file n lent accepted in
    subst (λ (r : Reply × List ℕ). Fresh file n r.0.state r.1) (sym o.leaves)
    (record {
      file_is = opened_file_lem file n;
      slots_are = refl;
      counts = fresh_opened (row_bytes_in file) (rows_in file) n (length lent) o.exact o.few;
    })

pub summaries_hold : SummariesHold
summaries_hold file n lent accepted calls =
    let state = (opening file n lent).0.state in
    let memory = (opening file n lent).1 in
    summarises file n (state_after state memory calls) (memory_after state memory calls)
    (all_valid state (opened_valid file n lent accepted) memory calls)
    (all_fresh file n state memory calls (opened_fresh file n lent accepted))
