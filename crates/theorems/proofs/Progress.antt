-- From an accepted start on, whatever is called and as long as no other start and no abandon is accepted, polls hand out the things of
-- the run one by one in order.
-- Assumes nothing.
use mathlib.Core.Path.{◌≡◌, refl, sym, subst}
use mathlib.Core.Bool.{Bool, true, false, not, false≢true}
use mathlib.Core.List.{List, [], ◌∷◌}
use Prim.Native.Nat.{ℕ}
use borrow.Author.Tests.{eqb-true, eq-eqb, eqb-false, not-true}
use lib.Dec.{eqb}
use lib.ListN.{length}
use Rattle.lists.specs.Lists.{overlay}
use Rattle.lists.proofs.Lists.{take-overlay}
use Rattle.lists.proofs.Rules.{and_left, and_right, by_cases}
use Rattle.summary.specs.declared.Summary.{Summary}
use Rattle.run.specs.Runs.{begun}
use Rattle.run.specs.declared.Tick.{Tick}
use Rattle.run.specs.declared.Passed.{Passed}
use Rattle.run.specs.declared.Position.{Position}
use Rattle.run.specs.declared.Run.{Run}
use Rattle.run.specs.declared.Phase.{Phase}
use Rattle.run.specs.declared.Phase.TheVariants.{Idle, Abandoned, Running}
use Rattle.poll.specs.Answers.{put_out}
use Rattle.poll.specs.HandOut.{Outcome, outcome, step_bytes, line_bytes, hand_out}
use Rattle.poll.specs.declared.Answer.{Answer}
use Rattle.poll.specs.declared.Answer.TheVariants as answer
use Rattle.store.proofs.Conditions.{valid-state, run_of}
use Rattle.board.specs.State.{file_of, with_phase, with_summaries, state_valid}
use Rattle.board.specs.Calls.{reply, in_state, start_cases, starting}
use Rattle.board.specs.History.{Call, start, poll, summary, Given, number, answered, summed, is_accepted, event, out_of, Called, of_poll, call_on, events_of}
use Rattle.board.specs.declared.State.{State}
use Rattle.board.specs.declared.Reply.{Reply}
use Rattle.board.proofs.Effects as effects
use Rattle.board.proofs.Effects.{Effect, leaving, polled_to, effect}
use Rattle.theorems.specs.Order.{Thing, a_write, a_line, the_end, things_of_run, things_in, thing_bytes, thing_answer, HandsFirst, InOrder}
use Rattle.theorems.specs.Progress.{hands_out, Goes, nothing, hands, AllGo, none, more, turns, no_turns, state_after}
use Rattle.theorems.proofs.Handed.{phase_in, by_handed}
use Rattle.theorems.proofs.Kept.{stays_valid, valid_kept}
use Rattle.theorems.proofs.Order.{in_order_lem}

-- a run under way shows this slot
abbrev pub runs_on : Phase → (slot : ℕ) → Bool
runs_on Idle slot = true
runs_on Abandoned slot = true
runs_on (Running run) slot = eqb run.slot slot

-- a call keeps the settings file and the run's slot, and its event goes through what is to come
pub record Onward (file : List ℕ) (slot : ℕ) (to_come : List Thing) (called : Called) : Type 0 where
  pub file_kept : file_of called.state ≡ file
  pub slot_kept : runs_on called.state.store.phase slot ≡ true
  pub goes : Goes file slot to_come called.seen (things_in file called.state.store.phase)

-- a refusal hands nothing out
pub refused-hands : (given : Given) → is_accepted given ≡ false → hands_out given ≡ false
refused-hands (number n) e = refl
refused-hands (summed n held) e = refl
refused-hands (answered (answer.Refused n)) e = refl
refused-hands (answered (answer.Write n)) e = absurd (false≢true (sym e))
refused-hands (answered (answer.Line n)) e = absurd (false≢true (sym e))
refused-hands (answered (answer.Wait ms)) e = refl
refused-hands (answered answer.Done) e = absurd (false≢true (sym e))

-- ---- a poll of a run

-- what is put out of a thing is its bytes
pub put-thing : (file memory : List ℕ) (slot : ℕ) (thing : Thing) (out : List ℕ)
    → put_out (thing_answer file memory slot thing) (overlay (thing_bytes file memory slot thing) out) ≡ thing_bytes file memory slot thing
put-thing file memory slot (a_write step) out = take-overlay (step_bytes step) out
put-thing file memory slot (a_line stage frame row) out = take-overlay (line_bytes file memory slot stage row) out
put-thing file memory slot the_end out = refl

module _ (file : List ℕ) (slot : ℕ) (tick : Tick) (memory out : List ℕ) where
  goes_first : (to_come : List Thing) (given : Answer) (phase : Phase) (out' : List ℕ)
      → HandsFirst file memory out slot to_come given phase out'
      → Goes file slot to_come (event (poll tick out) memory (answered given) (put_out given out')) (things_in file phase)
  goes_first to_come given phase out' first =
      rw (first.first, first.answers, first.puts, put-thing file memory slot first.thing out) (hands first.thing)

  goes_outcome : (state : State) (to_come : List Thing) (o : Outcome) → InOrder file memory out slot to_come o
      → Goes file slot to_come (of_poll (poll tick out) memory (in_state state slot o)).seen (things_in file (phase_in o))
  goes_outcome state to_come (outcome (answer.Refused n) phase memory' out') e = rw e (nothing refl)
  goes_outcome state to_come (outcome (answer.Wait ms) phase memory' out') e = rw e (nothing refl)
  goes_outcome state to_come (outcome (answer.Write l) phase memory' out') first = goes_first to_come _ phase out' first
  goes_outcome state to_come (outcome (answer.Line l) phase memory' out') first = goes_first to_come _ phase out' first
  goes_outcome state to_come (outcome answer.Done phase memory' out') first = goes_first to_come _ phase out' first

  -- it shows the same slot
  hands_on : (run : Run) → eqb run.slot slot ≡ true → (moment : Passed) (position : Position)
      → runs_on (phase_in (hand_out file run tick moment memory out position)) slot ≡ true
  hands_on run on moment =
      by_handed file run tick moment memory out (λ o. runs_on (phase_in o) slot ≡ true) (λ step next. on) (λ first stage frame row. on) refl

-- ---- every call

module _ (state : State) (memory : List ℕ) (slot : ℕ) (valid : state_valid state ≡ true) (on : runs_on state.store.phase slot ≡ true) where
  abbrev Goes_on : Called → Type 0
  Goes_on = Onward (file_of state) slot (things_in (file_of state) state.store.phase)

  abbrev counts : List Summary
  counts = state.store.summaries

  -- nothing goes out, and the phase stays
  stays_on : (call : Call) (given : Given) → hands_out given ≡ false → (summaries : List Summary) (memory' out' : List ℕ)
      → Goes_on (leaving call memory given (with_summaries state summaries) memory' out')
  stays_on call given e summaries memory' out' = record { file_kept = refl; slot_kept = on; goes = nothing e }

  module _ (tick : Tick) (out : List ℕ) (run : Run) (at : state.store.phase ≡ Running run) where
    on_run : eqb run.slot slot ≡ true
    on_run = rw at at on

    in_state_lem : (o : Outcome) → runs_on (phase_in o) slot ≡ true → InOrder (file_of state) memory out slot (things_in (file_of state) state.store.phase) o
        → Goes_on (polled_to state memory run tick out o)
    in_state_lem (outcome given phase memory' out') kept ordered =
        record {
          file_kept = refl;
          slot_kept = kept;
          goes = goes_outcome (file_of state) slot tick memory out state _ (outcome given phase memory' out') ordered;
        }

    handed : (moment : Passed) → Goes_on (polled_to state memory run tick out (hand_out (file_of state) run tick moment memory out run.next))
    handed moment =
        let file = file_of state in
        let o = hand_out file run tick moment memory out run.next in
        let order = in_order_lem file state.store.slots run tick memory out (valid-state valid).good (run_of (valid-state valid) at) moment in
        let ordered : InOrder file memory out slot (things_in file state.store.phase) o = rw (at, ← eqb-true run.slot slot on_run) order in
        in_state_lem o (hands_on file slot tick memory out run on_run moment run.next) ordered

  effect_on : {call : Call} {called : Called} → Effect state memory call called → turns called.seen ≡ false → Goes_on called
  effect_on (effects.refuses call given e) f = stays_on call given (refused-hands given e) counts memory (out_of call)
  effect_on (effects.reads call out' e t) f = stays_on call (number 0) refl counts memory out'
  effect_on (effects.tells t held u) f = stays_on (summary t) (summed 0 held) refl counts memory []
  effect_on (effects.draws call t picture e u may long) f = stays_on call (number 0) refl _ _ (out_of call)
  effect_on (effects.begins t u may) f = record { file_kept = refl; slot_kept = on; goes = nothing refl }
  effect_on (effects.fills call act writes kind t is) f = record { file_kept = refl; slot_kept = on; goes = nothing refl }
  effect_on (effects.starts t tick u may) f = absurd (false≢true (sym f))
  effect_on (effects.abandons t is) f = absurd (false≢true (sym f))
  effect_on (effects.waits tick out run moment at before) f =
      record {
        file_kept = refl;
        slot_kept = on_run tick out run at.runs;
        goes = rw at.runs (nothing refl);
      }
  effect_on (effects.hands tick out run moment at due) f = handed tick out run at.runs moment

  pub call_on_lem : (call : Call) → turns (call_on state memory call).seen ≡ false → Goes_on (call_on state memory call)
  call_on_lem call = effect_on (effect state memory call)

-- ---- every list of calls

all_on : (file : List ℕ) (slot : ℕ) (state : State) → file_of state ≡ file → state_valid state ≡ true → runs_on state.store.phase slot ≡ true
    → (memory : List ℕ) (calls : List Call) → no_turns (events_of state memory calls) ≡ true
    → AllGo file slot (things_in file state.store.phase) (events_of state memory calls) (things_in file (state_after state memory calls).store.phase)
all_on file slot state e valid on memory [] f = none
all_on file slot state e valid on memory (call ∷ calls) f =
    let now = call_on state memory call in
    let quiet = not-true _ (and_left (not (turns now.seen)) (no_turns (events_of now.state now.memory calls)) f) in
    let one =
    subst (λ (s : List ℕ). Onward s slot (things_in s state.store.phase) (call_on state memory call)) e
    (call_on_lem state memory slot valid on call quiet) in
    more one.goes
    (all_on file slot now.state one.file_kept (stays_valid state memory valid call) one.slot_kept now.memory calls
    (and_right (not (turns now.seen)) (no_turns (events_of now.state now.memory calls)) f))

-- after an accepted start all of the run is to come, and the events go through it
pub run_in_order : (state : State) (memory : List ℕ) (slot : ℕ) (tick : Tick) (calls : List Call)
    → (starting state (length memory) slot tick).number ≡ 0
    → no_turns (events_of (starting state (length memory) slot tick).state memory calls) ≡ true
    → AllGo (file_of state) slot (things_of_run (file_of state)) (events_of (starting state (length memory) slot tick).state memory calls)
    (things_in (file_of state) (state_after (starting state (length memory) slot tick).state memory calls).store.phase)
unfolding starting
run_in_order state memory slot tick calls accepted =
    by_cases
    (λ (r : Reply).
    r.number ≡ 0 → state_valid r.state ≡ true → no_turns (events_of r.state memory calls) ≡ true
    → AllGo (file_of state) slot (things_of_run (file_of state)) (events_of r.state memory calls)
    (things_in (file_of state) (state_after r.state memory calls).store.phase))
    (start_cases state (length memory) slot) (λ number. reply number state) (reply 0 (with_phase state (Running (begun slot tick)))) refl
    (λ number e z. absurd (eqb-false number 0 e z))
    (λ free z valid. all_on (file_of state) slot _ refl valid (eq-eqb slot slot refl) memory calls)
    accepted
    (valid_kept state memory (start slot tick) (eq-eqb _ 0 accepted))
