-- What an accepted call leaves, and an accepted opening, is valid: it keeps every condition on a state.
-- Assumes nothing.
use mathlib.Core.Path.{◌≡◌, refl, sym, ap, ◌∙◌}
use mathlib.Core.Bool.{Bool, true, false}
use mathlib.Core.List.{List, [], ◌∷◌}
use Prim.Native.Nat.{ℕ, ◌≤◌}
use native.Mathlib.Omega.{arith}
use borrow.Author.Tests.{eqb-false, ne_eqb}
use lib.Dec.{eqb}
use lib.ListN.{length, drop, replicate, length-replicate}
use Rattle.lists.proofs.Lists.{length-overlay}
use Rattle.lists.proofs.Rules.{by_test}
use Rattle.panel.proofs.Panels.{size_of}
use Rattle.settings.specs.Settings.{Step, panel_of, start_steps, stop_steps, settings_good, longest_file, row_bytes_in, rows_in, stride_in}
use Rattle.settings.specs.Steps.{from_write}
use Rattle.settings.proofs.Accepted.{good_short, good-panel}
use Rattle.fill.specs.Fills.{begun_fill, empty_fill}
use Rattle.fill.specs.Conditions.{fill_valid}
use Rattle.fill_calls.specs.declared.Fed.{Fed}
use Rattle.fill.proofs.Kept.{valid-begun}
use Rattle.summary.specs.Conditions.{summaries_good}
use Rattle.summary.specs.declared.Summary.{Summary}
use Rattle.summary.proofs.Conditions.{good_opened, good_written, good_copied}
use Rattle.run.specs.Clock.{passed_at}
use Rattle.run.specs.Conditions.{run_valid}
use Rattle.run.specs.Due.{due_of}
use Rattle.run.specs.Runs.{begun}
use Rattle.run.specs.declared.Tick.{Tick}
use Rattle.run.specs.declared.Passed.{Passed}
use Rattle.run.specs.declared.Position.{Position}
use Rattle.run.specs.declared.Position.TheVariants.{Start, Line, Stop}
use Rattle.run.specs.declared.Run.{Run}
use Rattle.run.specs.declared.Phase.{Phase}
use Rattle.run.specs.declared.Phase.TheVariants.{Idle, Abandoned, Running}
use Rattle.run.proofs.Valid as runs
use Rattle.run.proofs.Keeps.{begun-valid, waited-valid, start_written, stop_written, first_line_lem, line-handed}
use Rattle.poll.specs.HandOut.{Outcome, outcome, hand_start, hand_stop, hand_out}
use Rattle.poll.specs.declared.Answer.{Answer}
use Rattle.poll.specs.declared.Answer.TheVariants as answer
use Rattle.slots.specs.Slots.{counted_in, on_slot}
use Rattle.store.specs.Conditions.{is_runs_slot, phase_valid}
use Rattle.store.specs.Refusals.{is_filling}
use Rattle.store.proofs.Conditions.{valid-state, state-valid, phase_kept, fill_kept, summaries_kept, run_of}
use Rattle.board.specs.State.{file_of, sizes_of, state_valid, opened_state}
use Rattle.board.specs.Calls.{opening, summaries_after}
use Rattle.board.specs.History.{Call, is_accepted, given_by, Called, call_on}
use Rattle.board.specs.declared.State.{State}
use Rattle.board.specs.declared.Reply.{Reply}
use Rattle.board.proofs.Tests.{Tested}
use Rattle.board.proofs.Effects.{Fills, filled_to, Effect, refuses, reads, tells, draws, begins, fills, starts, abandons, waits, hands, polled_to, effect}
use Rattle.board.proofs.Filled.{act_valid, act_slot, sized}
use Rattle.board.proofs.Opening.{opened, opened_file_lem}
use Rattle.theorems.specs.Progress.{state_after}
use Rattle.theorems.proofs.Handed.{phase_in, by_handed}
use Rattle.theorems.proofs.Invalid.{was_valid}

-- ---- polls

-- what a poll leaves is a valid phase
abbrev Leaves : (file : List ℕ) (n : ℕ) → Outcome → Type 0
Leaves file n (outcome answer phase memory out) = phase_valid file n phase ≡ true

module _ (file : List ℕ) (n : ℕ) (run : Run) (tick : Tick) (memory out : List ℕ)
    (good : settings_good file ≡ true) (valid : run_valid file n run ≡ true) (moment : Passed) (due : due_of file run ≤ moment.0) where
  start_leaves : (k : ℕ) (steps : List Step) → run.next ≡ Start k → from_write (drop k (start_steps file)) ≡ steps
      → Leaves file n (hand_start file run tick moment memory out steps)
  start_leaves k [] at found = first_line_lem file n run valid tick moment good
  start_leaves k (step ∷ rest) at found = start_written file n run valid tick moment k step rest good at found

  stop_leaves : (k : ℕ) (steps : List Step) → run.next ≡ Stop k → from_write (drop k (stop_steps file)) ≡ steps
      → Leaves file n (hand_stop file run tick moment memory out steps)
  stop_leaves k [] at found = refl
  stop_leaves k (step ∷ rest) at found = stop_written file n run valid tick moment k step rest good at found due

  handed_leaves : (position : Position) → run.next ≡ position
      → Leaves file n (hand_out file run tick moment memory out position)
  handed_leaves (Start k) at = start_leaves k (from_write (drop k (start_steps file))) at refl
  handed_leaves (Line stage frame row) at = line-handed file n run valid tick moment stage frame row at due
  handed_leaves (Stop k) at = stop_leaves k (from_write (drop k (stop_steps file))) at refl

-- ---- every call

module _ (state : State) (memory : List ℕ) (valid : state_valid state ≡ true) where
  -- the slot being filled, 0 where there is none
  abbrev filled : ℕ
  filled = state.store.fill.slot

  -- the summaries that keep their conditions
  abbrev Counts : List Summary → Type 0
  Counts summaries = summaries_good (sizes_of state).bytes (sizes_of state).rows state.store.slots summaries ≡ true

  counts : Counts state.store.summaries
  counts = (valid-state valid).summaries_good

  -- a fresh count of any slot
  counted-good : (after : List ℕ) (slot : ℕ) → Counts (counted_in (sizes_of state) after slot state.store.summaries)
  counted-good after slot =
      good_written (sizes_of state).bytes (sizes_of state).rows state.store.slots state.store.summaries counts slot _

  -- what a poll of a run that shows a slot leaves
  in_state_lem : (run : Run) (tick : Tick) (out : List ℕ) (o : Outcome) → run.slot ≤ state.store.slots
      → Leaves (file_of state) state.store.slots o → is_runs_slot (phase_in o) filled ≡ false
      → state_valid (polled_to state memory run tick out o).state ≡ true
  in_state_lem run tick out (outcome given phase memory' out') high e apart =
      summaries_kept (valid-state (phase_kept (valid-state valid) phase e apart)) _ (after given)
    where
      after : (a : Answer) → Counts (summaries_after a run.slot state.store.summaries)
      after (answer.Refused n) = counts
      after (answer.Write n) = counts
      after (answer.Line n) = counts
      after (answer.Wait ms) = counts
      after answer.Done =
          good_copied (sizes_of state).bytes (sizes_of state).rows state.store.slots state.store.summaries counts run.slot high

  -- a run under way has another slot
  run_apart : (run : Run) → state.store.phase ≡ Running run → eqb run.slot filled ≡ false
  run_apart run at = ap (λ (p : Phase). is_runs_slot p filled) (sym at) ∙ (valid-state valid).fill_apart

  no_run_of_0 : is_runs_slot state.store.phase 0 ≡ false
  no_run_of_0 = go state.store.phase (valid-state valid).phase_good
    where
      go : (phase : Phase) → phase_valid (file_of state) state.store.slots phase ≡ true → is_runs_slot phase 0 ≡ false
      go Idle e = refl
      go Abandoned e = refl
      go (Running run) e =
          let low = (runs.valid (file_of state) state.store.slots run e).low in
          ne_eqb run.slot 0 (λ z. absurd (omega (arith, low, z)))

  fills_valid : {call : Call} {act : List ℕ → Fed × List ℕ} {writes : Fed → Bool} → Fills (sizes_of state) state.store.fill call act writes
      → Tested state (length memory) → is_filling state.store.fill ≡ true
      → state_valid (filled_to state memory call act writes).state ≡ true
  fills_valid {call} {act} {writes} kind t is =
      let v = valid-state valid in
      let slot : (P : ℕ → Type 0) → P filled → P 0 → _ = act_slot kind (sized state memory t) v.fill_good _ in
      let kept =
      fill_kept (valid-state valid) _ (slot (λ k. k ≤ state.store.slots) v.fill_high (omega arith))
      (slot (λ k. is_runs_slot state.store.phase k ≡ false) v.fill_apart no_run_of_0)
      (act_valid kind (sized state memory t) v.fill_good is _) in
      let d = on_slot (sizes_of state) memory filled act in
      summaries_kept (valid-state kept) _
      (by_test Counts (writes d.0) (counted_in (sizes_of state) d.1 filled state.store.summaries) state.store.summaries
      (λ w. counted-good d.1 filled) (λ w. counts))

  -- a call on a valid state leaves a valid state, accepted or not
  pub leaves_valid : {call : Call} {called : Called} → Effect state memory call called → state_valid called.state ≡ true
  leaves_valid (refuses call given e) = valid
  leaves_valid (reads call out' e t) = valid
  leaves_valid (tells slot held t) = valid
  leaves_valid (draws call slot picture e t may long) = summaries_kept (valid-state valid) _ (counted-good _ slot)
  leaves_valid (begins slot t may) =
      let z = sized state memory t in
      fill_kept (valid-state valid) (begun_fill slot) may.upload.takes.high may.upload.not_runs
      (valid-begun (sizes_of state).bytes (sizes_of state).rows (sizes_of state).stride z.some z.narrow z.within z.small z.low slot)
  leaves_valid (fills call act writes kind t is) = fills_valid kind t is
  leaves_valid (starts slot tick t may) =
      phase_kept (valid-state valid) (Running (begun slot tick))
      (begun-valid (file_of state) state.store.slots slot tick may.takes.low may.takes.high)
      (ne_eqb slot state.store.fill.slot (λ e. eqb-false state.store.fill.slot slot may.not_filled (sym e)))
  leaves_valid (abandons t is) = phase_kept (valid-state valid) Abandoned refl refl
  leaves_valid (waits tick out run moment at before) =
      let later : run.passed.0 ≤ moment.0 =
      let q : moment.0 ≡ passed_at run.passed run.last tick = ap (λ (p : Passed). p.0) at.is in omega arith in
      phase_kept (valid-state valid) _
      (waited-valid (file_of state) state.store.slots run (run_of (valid-state valid) at.runs) tick moment later)
      (run_apart run at.runs)
  leaves_valid (hands tick out run moment at due) =
      in_state_lem run tick out (hand_out (file_of state) run tick moment memory out run.next)
      (runs.valid (file_of state) state.store.slots run (run_of (valid-state valid) at.runs)).high
      (handed_leaves (file_of state) state.store.slots run tick memory out (valid-state valid).good
      (run_of (valid-state valid) at.runs) moment due run.next refl)
      (by_handed (file_of state) run tick moment memory out (λ o. is_runs_slot (phase_in o) filled ≡ false)
      (λ step next. run_apart run at.runs) (λ first stage frame row. run_apart run at.runs) refl run.next)

  pub stays_valid : (call : Call) → state_valid (call_on state memory call).state ≡ true
  stays_valid call = leaves_valid (effect state memory call)

-- every state from an accepted call is valid
pub valid_kept : (state : State) (memory : List ℕ) (call : Call) → is_accepted (given_by (call_on state memory call).seen) ≡ true
    → state_valid (call_on state memory call).state ≡ true
valid_kept state memory call e = stays_valid state memory (was_valid state memory call e) call

-- and so is every state that any list of calls leaves
pub all_valid : (state : State) → state_valid state ≡ true → (memory : List ℕ) (calls : List Call)
    → state_valid (state_after state memory calls) ≡ true
all_valid state valid memory [] = valid
all_valid state valid memory (call ∷ calls) =
    all_valid (call_on state memory call).state (stays_valid state memory valid call) (call_on state memory call).memory calls

-- ---- opening

-- no fill is a valid one
empty_valid : (file : List ℕ) → settings_good file ≡ true → fill_valid (row_bytes_in file) (rows_in file) (stride_in file) empty_fill ≡ true
empty_valid file good =
    let z = size_of (panel_of file) (good-panel file good) in
    valid-begun (row_bytes_in file) (rows_in file) (stride_in file) z.some z.narrow z.within z.small z.low 0

-- the state from an accepted opening is valid: an accepted file fits in the state, which keeps it whole
pub opened_valid : (file : List ℕ) (n : ℕ) (memory : List ℕ) → (opening file n memory).0.number ≡ 0
    → state_valid (opening file n memory).0.state ≡ true
opened_valid file n memory accepted =
    let o = opened file n memory accepted in
    let blank : List ℕ = replicate longest_file 0 in
    let room : length file ≤ length blank = rw (length-replicate {A = ℕ} longest_file 0) (good_short file o.good) in
    let fits : length file ≤ length (opened_state file n).settings.file = rw (length-overlay file blank room) room in
    ap (λ (r : Reply × List ℕ). state_valid r.0.state) o.leaves
    ∙ state-valid
    (record {
      within = fits;
      good = rw (opened_file_lem file n) o.good;
      some = o.some;
      few = o.few;
      phase_good = refl;
      fill_high = omega arith;
      fill_apart = refl;
      fill_good = rw (opened_file_lem file n) (empty_valid file o.good);
      summaries_good = good_opened _ _ n o.few;
    })
