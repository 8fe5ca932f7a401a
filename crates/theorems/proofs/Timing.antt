-- Over every list of calls since an accepted start or opening, and from any valid state with what its fields say as the past: nothing
-- is handed out before it is due, a wait answer is exactly what is still to go, and from the due moment on a poll that is not refused
-- hands the thing out; all of it as read from outside.
-- Assumes nothing.
use mathlib.Core.Path.{◌≡◌, refl, sym, subst}
use mathlib.Core.Bool.{true, false}
use mathlib.Core.List.{List, [], ◌∷◌}
use Prim.Native.Nat.{ℕ, ◌-◌, ◌≤◌, ◌<◌}
use borrow.Author.Tests.{eq-eqb, eqb-false}
use lib.ListN.{length}
use Rattle.lists.proofs.Rules.{by_cases}
use Rattle.summary.specs.declared.Summary.{Summary}
use Rattle.run.specs.Clock.{passed_at}
use Rattle.run.specs.Due.{due_of}
use Rattle.run.specs.Runs.{begun, waited}
use Rattle.run.specs.declared.Tick.{Tick}
use Rattle.run.specs.declared.Passed.{Passed}
use Rattle.run.specs.declared.Run.{Run}
use Rattle.run.specs.declared.Phase.TheVariants.{Running}
use Rattle.poll.specs.HandOut.{Outcome, outcome, hand_out}
use Rattle.poll.specs.declared.Answer.TheVariants as answer
use Rattle.store.proofs.Conditions.{valid-state, run_of}
use Rattle.board.specs.State.{file_of, with_phase, with_summaries, state_valid, opened_state}
use Rattle.board.specs.Calls.{reply, start_cases, starting}
use Rattle.board.specs.History.{Call, start, summary, Part, starts, polls, abandons, no_part, part_of, Given, number, answered, summed, is_accepted, Called, call_on, events_of}
use Rattle.board.specs.declared.State.{State}
use Rattle.board.specs.declared.Reply.{Reply}
use Rattle.board.proofs.Effects as effects
use Rattle.board.proofs.Effects.{Effect, leaving, polled_to, effect}
use Rattle.board.proofs.Filled.{fills_apart}
use Rattle.board.proofs.Opening.{opened, opened_file_lem}
use Rattle.theorems.specs.Progress.{hands_out}
use Rattle.theorems.specs.Timing.{Observed, no_run, a_run, watch_at_start, observed_by, observed_after, TimelyBy, Timely, AllTimely, none, more, RunOnTime, HistoryOnTime}
use Rattle.theorems.specs.Past.{StateOnTime, watch_of, observed_in}
use Rattle.theorems.proofs.Kept.{stays_valid, valid_kept, opened_valid}
use Rattle.theorems.proofs.Progress.{refused-hands}
use Rattle.theorems.proofs.PollTiming.{KeepsTime, early_keeps, late_keeps}

-- ---- every call

-- a call keeps the settings file, its event is on time, and what is observed stays what the fields say
record InStep (file : List ℕ) (observed : Observed) (called : Called) : Type 0 where
  pub file_kept : file_of called.state ≡ file
  pub timely : Timely 0 file observed called.seen
  pub follows : observed_after file observed called.seen ≡ observed_in file called.state.store.phase

-- a refused call is on time, and leaves what is observed
refused_timely : (file : List ℕ) (observed : Observed) (part : Part) (memory : List ℕ) (given : Given) → is_accepted given ≡ false
    → TimelyBy 0 file observed part memory given []
refused_timely file observed (starts slot tick) memory given e = refused-hands given e
refused_timely file no_run (polls tick) memory given e = e
refused_timely file (a_run slot watch) (polls tick) memory (number n) e = refl
refused_timely file (a_run slot watch) (polls tick) memory (summed n held) e = refl
refused_timely file (a_run slot watch) (polls tick) memory (answered given) e = λ z. absurd (eqb-false _ 0 e z)
refused_timely file observed abandons memory given e = refused-hands given e
refused_timely file observed no_part memory given e = refused-hands given e

refused_follows : (file : List ℕ) (observed : Observed) (part : Part) (given : Given) → is_accepted given ≡ false
    → observed_by file observed part given ≡ observed
refused_follows file observed (starts slot tick) given e = rw e
refused_follows file no_run (polls tick) given e = refl
refused_follows file (a_run slot watch) (polls tick) (number n) e = refl
refused_follows file (a_run slot watch) (polls tick) (summed n held) e = refl
refused_follows file (a_run slot watch) (polls tick) (answered (answer.Refused n)) e = refl
refused_follows file (a_run slot watch) (polls tick) (answered (answer.Write l)) e = absurd (eqb-false 0 0 e refl)
refused_follows file (a_run slot watch) (polls tick) (answered (answer.Line l)) e = absurd (eqb-false 0 0 e refl)
refused_follows file (a_run slot watch) (polls tick) (answered (answer.Wait ms)) e = absurd (eqb-false 0 0 e refl)
refused_follows file (a_run slot watch) (polls tick) (answered answer.Done) e = absurd (eqb-false 0 0 e refl)
refused_follows file observed abandons given e = rw e
refused_follows file observed no_part given e = refl

module _ (state : State) (memory : List ℕ) (valid : state_valid state ≡ true) where
  abbrev On : Called → Type 0
  On = InStep (file_of state) (observed_in (file_of state) state.store.phase)

  -- a call that has no part in a run
  apart : (call : Call) (given : Given) → part_of call ≡ no_part → hands_out given ≡ false → (summaries : List Summary) (memory' out' : List ℕ)
      → On (leaving call memory given (with_summaries state summaries) memory' out')
  apart call given e quiet summaries memory' out' =
      let observed = observed_in (file_of state) state.store.phase in
      record { file_kept = refl; timely = rw e quiet; follows = rw e refl }

  -- a poll of the run, at its moment
  of_run : (tick : Tick) (out : List ℕ) (run : Run) → state.store.phase ≡ Running run → (o : Outcome)
      → KeepsTime (file_of state) run.slot (watch_of (file_of state) run) tick memory o → On (polled_to state memory run tick out o)
  of_run tick out run at (outcome given phase memory' out') keeps =
      rw at (record { file_kept = refl; timely = keeps.0; follows = keeps.1 })

  module _ (tick : Tick) (out : List ℕ) (run : Run) where
    abbrev read : Passed
    read = record { 0 = passed_at run.passed run.last tick }

    abbrev waiting : Passed → Outcome
    waiting m = outcome (answer.Wait (due_of (file_of state) run - m.0)) (Running (waited run tick m)) memory out

    abbrev handing : Passed → Outcome
    handing m = hand_out (file_of state) run tick m memory out run.next

  effect_on : {call : Call} {called : Called} → Effect state memory call called → On called
  effect_on (effects.refuses call given e) =
      let observed = observed_in (file_of state) state.store.phase in
      record {
        file_kept = refl;
        timely = refused_timely (file_of state) observed (part_of call) memory given e;
        follows = refused_follows (file_of state) observed (part_of call) given e;
      }
  effect_on (effects.reads call out' e t) = apart call (number 0) e refl state.store.summaries memory out'
  effect_on (effects.tells slot held t) = apart (summary slot) (summed 0 held) refl refl state.store.summaries memory []
  effect_on (effects.draws call slot picture e t may long) = apart call (number 0) e refl _ _ _
  effect_on (effects.begins slot t may) = record { file_kept = refl; timely = refl; follows = refl }
  effect_on (effects.fills call act writes kind t is) =
      record { file_kept = refl; timely = rw (fills_apart kind) refl; follows = rw (fills_apart kind) refl }
  effect_on (effects.starts slot tick t may) = record { file_kept = refl; timely = refl; follows = refl }
  effect_on (effects.abandons t is) = record { file_kept = refl; timely = refl; follows = refl }
  effect_on (effects.waits tick out run moment at before) =
      let file = file_of state in
      let good = (valid-state valid).good in
      let ok = run_of (valid-state valid) at.runs in
      of_run tick out run at.runs (waiting tick out run moment)
      (subst (λ (m : Passed). KeepsTime file run.slot (watch_of file run) tick memory (waiting tick out run m)) (sym at.is)
      (early_keeps file state.store.slots run tick memory out good ok (subst (λ (m : Passed). m.0 < due_of file run) at.is before)))
  effect_on (effects.hands tick out run moment at due) =
      let file = file_of state in
      let good = (valid-state valid).good in
      let ok = run_of (valid-state valid) at.runs in
      of_run tick out run at.runs (handing tick out run moment)
      (subst (λ (m : Passed). KeepsTime file run.slot (watch_of file run) tick memory (handing tick out run m)) (sym at.is)
      (late_keeps file state.store.slots run tick memory out good ok (subst (λ (m : Passed). due_of file run ≤ m.0) at.is due)))

-- ---- every list of calls

all_on_time : (file : List ℕ) (state : State) → file_of state ≡ file → state_valid state ≡ true → (memory : List ℕ) (calls : List Call)
    → AllTimely 0 file (observed_in file state.store.phase) (events_of state memory calls)
all_on_time file state e valid memory [] = none
all_on_time file state e valid memory (call ∷ calls) =
    let now = call_on state memory call in
    let one =
    subst (λ (s : List ℕ). InStep s (observed_in s state.store.phase) (call_on state memory call)) e
    (effect_on state memory valid (effect state memory call)) in
    more one.timely
    (subst (λ (o : Observed). AllTimely 0 file o (events_of now.state now.memory calls)) (sym one.follows)
    (all_on_time file now.state one.file_kept (stays_valid state memory valid call) now.memory calls))

-- from any valid state, also a made-up one
pub state_on_time : StateOnTime
state_on_time state memory calls valid = all_on_time (file_of state) state refl valid memory calls

-- since an accepted start
pub run_keeps_time : RunOnTime
unfolding starting
run_keeps_time state memory slot tick calls accepted =
    by_cases
    (λ (r : Reply).
    r.number ≡ 0 → state_valid r.state ≡ true
    → AllTimely 0 (file_of state) (a_run slot (watch_at_start (file_of state) tick)) (events_of r.state memory calls))
    (start_cases state (length memory) slot) (λ n. reply n state) (reply 0 (with_phase state (Running (begun slot tick)))) refl
    (λ n e z. absurd (eqb-false n 0 e z))
    (λ free z valid. all_on_time (file_of state) _ refl valid memory calls)
    accepted
    (valid_kept state memory (start slot tick) (eq-eqb _ 0 accepted))

-- since an accepted opening
pub history_on_time : HistoryOnTime
history_on_time file n lent calls accepted =
    let valid = opened_valid file n lent accepted in
    let o = opened file n lent accepted in
    rw o.leaves (all_on_time file (opened_state file n) (opened_file_lem file n) (rw o.leaves at valid) _ calls)
