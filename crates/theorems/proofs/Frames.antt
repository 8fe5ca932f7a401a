-- A stage is N equal frames: since an accepted start, whatever is called and as long as no other start and no abandon is accepted, what
-- is put out is that of the pictures as they were at the start.
-- Assumes nothing.
use mathlib.Core.Path.{◌≡◌, refl, sym, ap, subst, ◌∙◌}
use mathlib.Core.Bool.{Bool, true, false, cond, not, false≢true}
use mathlib.Core.List.{List, [], ◌∷◌, ◌++◌, append_assoc, append-nil}
use mathlib.Core.Logic.{⊎_elim}
use Prim.Native.Nat.{ℕ, zero, suc, ◌+◌, ◌≤◌}
use native.Mathlib.Omega.{arith}
use borrow.Author.Tests.{eqb-true, eq-eqb, eqb-false, not-true}
use lib.Dec.{leb}
use lib.ListN.{length}
use Rattle.lists.proofs.Rules.{and_left, and_right, either, by_cases}
use Rattle.panel.specs.Dots.{row_dot}
use Rattle.wire.specs.Line.{handed_line}
use Rattle.settings.specs.Settings.{Step, write, wait, malformed, start_steps, stop_steps, row_bytes_in, rows_in}
use Rattle.picture.specs.Slots.{slot_picture, with_picture, picture_row}
use Rattle.picture.proofs.Slots.{others_kept}
use Rattle.balance.specs.Sums.{picture_of_stage}
use Rattle.summary.specs.declared.Summary.{Summary}
use Rattle.run.specs.Due.{run_frames}
use Rattle.run.specs.Runs.{begun}
use Rattle.run.specs.declared.Tick.{Tick}
use Rattle.run.specs.declared.Run.{Run}
use Rattle.run.specs.declared.Phase.{Phase}
use Rattle.run.specs.declared.Phase.TheVariants.{Idle, Abandoned, Running}
use Rattle.poll.specs.HandOut.{Outcome, outcome, step_bytes, line_bytes, hand_out}
use Rattle.poll.specs.declared.Answer.TheVariants as answer
use Rattle.store.specs.Conditions.{is_runs_slot}
use Rattle.store.proofs.Conditions.{valid-state}
use Rattle.board.specs.State.{file_of, sizes_of, with_phase, with_summaries, state_valid}
use Rattle.board.specs.Calls.{reply, start_cases, starting}
use Rattle.board.specs.History.{Call, start, summary, Given, number, answered, summed, is_accepted, is_done_answer, is_done, Event, event, out_of, Called, call_on, events_of}
use Rattle.board.specs.declared.State.{State}
use Rattle.board.specs.declared.Reply.{Reply}
use Rattle.board.proofs.Effects as effects
use Rattle.board.proofs.Effects.{Effect, leaving, filled_to, polled_to, effect}
use Rattle.board.proofs.Filled.{filled_low, filled_others}
use Rattle.theorems.specs.Order.{Thing, a_write, a_line, the_end, writes_of, rows_from, frames_from, stages_from, things_of_run, things_in}
use Rattle.theorems.specs.Progress.{hands_out, Goes, nothing, hands, turns, no_turns}
use Rattle.theorems.specs.Frames.{writes_put, times, line_put, rows_put, frame_put, stage_put, run_put, puts_any, handed_by, all_put, is_done_by, was_done, Shows, EqualFrames}
use Rattle.theorems.proofs.Handed.{by_handed}
use Rattle.theorems.proofs.Kept.{stays_valid, valid_kept}
use Rattle.theorems.proofs.Progress.{runs_on, Onward, call_on_lem}

-- ---- the bytes of the things of a run

module _ (file shown new : List ℕ) where
  abbrev thing_put : Thing → List (List ℕ)
  thing_put (a_write step) = step_bytes step ∷ []
  thing_put (a_line stage frame row) = line_put file shown new stage row ∷ []
  thing_put the_end = []

  abbrev things_put : List Thing → List (List ℕ)
  things_put [] = []
  things_put (thing ∷ things) = thing_put thing ++ things_put things

  put-append : (left right : List Thing) → things_put (left ++ right) ≡ things_put left ++ things_put right
  put-append [] right = refl
  put-append (thing ∷ things) right =
      ap (λ (l : List (List ℕ)). thing_put thing ++ l) (put-append things right)
      ∙ sym (append_assoc (thing_put thing) (things_put things) (things_put right))

  put_writes : (steps : List Step) → things_put (writes_of steps) ≡ writes_put steps
  put_writes [] = refl
  put_writes (write register bytes ∷ steps) = ap (λ (l : List (List ℕ)). step_bytes (write register bytes) ∷ l) (put_writes steps)
  put_writes (wait ms ∷ steps) = put_writes steps
  put_writes (malformed ∷ steps) = put_writes steps

  put-rows : (stage frame row count : ℕ) → things_put (rows_from stage frame row count) ≡ rows_put file shown new stage row count
  put-rows stage frame row zero = refl
  put-rows stage frame row (suc count) =
      ap (λ (l : List (List ℕ)). line_put file shown new stage row ∷ l) (put-rows stage frame (row + 1) count)

  -- every frame of a stage is the same
  put-frames : (stage frame count : ℕ)
      → things_put (frames_from (rows_in file) stage frame count) ≡ times count (frame_put file shown new stage)
  put-frames stage frame zero = refl
  put-frames stage frame (suc count) =
      put-append (rows_from stage frame 0 (rows_in file)) (frames_from (rows_in file) stage (frame + 1) count)
      ∙ rw (put-rows stage frame 0 (rows_in file), put-frames stage (frame + 1) count)

  put-stage : (stage count : ℕ)
      → things_put (stages_from (rows_in file) (run_frames file) stage (suc count))
      ≡ stage_put file shown new stage ++ things_put (stages_from (rows_in file) (run_frames file) (stage + 1) count)
  put-stage stage count =
      put-append (frames_from (rows_in file) stage 0 (run_frames file)) (stages_from (rows_in file) (run_frames file) (stage + 1) count)
      ∙ rw (put-frames stage 0 (run_frames file))

  pub put_run : things_put (things_of_run file) ≡ run_put file shown new
  put_run =
      let h = rows_in file in
      let N = run_frames file in
      let stops : things_put (writes_of (stop_steps file) ++ (the_end ∷ [])) ≡ writes_put (stop_steps file) =
      put-append (writes_of (stop_steps file)) (the_end ∷ []) ∙ rw (put_writes (stop_steps file), append-nil (writes_put (stop_steps file))) in
      let stages : things_put (stages_from h N 1 4)
      ≡ stage_put file shown new 1 ++ (stage_put file shown new 2 ++ (stage_put file shown new 3 ++ (stage_put file shown new 4 ++ []))) =
      put-stage 1 3 ∙ rw (put-stage 2 2, put-stage 3 1, put-stage 4 0) in
      put-append (writes_of (start_steps file)) (stages_from h N 1 4 ++ (writes_of (stop_steps file) ++ (the_end ∷ [])))
      ∙ rw (
        put_writes (start_steps file),
        put-append (stages_from h N 1 4) (writes_of (stop_steps file) ++ (the_end ∷ [])),
        stops,
        stages,
      )
      (ap (λ (l : List (List ℕ)). writes_put (start_steps file) ++ l) (simp (append_assoc, append-nil)))

-- ---- a call leaves the pictures of a run under way

-- slot 0 and the run's slot hold these pictures
data Holds (file shown new : List ℕ) (slot : ℕ) (memory : List ℕ) : Phase → Type 0 where
  idle : Holds file shown new slot memory Idle
  gone : Holds file shown new slot memory Abandoned
  same : {run : Run} → slot_picture (row_bytes_in file) (rows_in file) memory 0 ≡ shown
      → slot_picture (row_bytes_in file) (rows_in file) memory slot ≡ new
      → Holds file shown new slot memory (Running run)

-- a slot that is neither slot 0 nor the run's may change
other_changed : (file shown new : List ℕ) (slot : ℕ) (memory memory' : List ℕ) (t : ℕ) → 1 ≤ t
    → ((u : ℕ) → (u ≡ t → ⊥)
    → slot_picture (row_bytes_in file) (rows_in file) memory' u ≡ slot_picture (row_bytes_in file) (rows_in file) memory u)
    → (phase : Phase) → runs_on phase slot ≡ true → is_runs_slot phase t ≡ false
    → Holds file shown new slot memory phase → Holds file shown new slot memory' phase
other_changed file shown new slot memory memory' t low kept Idle on free idle = idle
other_changed file shown new slot memory memory' t low kept Abandoned on free gone = gone
other_changed file shown new slot memory memory' t low kept (Running run) on free (same s n) =
    same (kept 0 (λ e. omega arith) ∙ s)
    (kept slot (λ e. eqb-false run.slot t free (eqb-true run.slot slot on ∙ e)) ∙ n)

abbrev memory_by : Event → List ℕ
memory_by (event call memory given put) = memory

-- a call sees the memory that it was lent, leaves the pictures, and has nothing to come where it answers done
record KeepsPictures (file shown new : List ℕ) (slot : ℕ) (memory : List ℕ) (called : Called) : Type 0 where
  pub lent : memory_by called.seen ≡ memory
  pub holds : Holds file shown new slot called.memory called.state.store.phase
  pub over : is_done_by called.seen ≡ true → things_in file called.state.store.phase ≡ []

-- what a poll of a run left
abbrev Polled : (file shown new : List ℕ) (slot : ℕ) → Outcome → Type 0
Polled file shown new slot (outcome given phase memory out) =
    Holds file shown new slot memory phase × (is_done_answer given ≡ true → things_in file phase ≡ [])

-- a refusal answers no done
refused-done : (given : Given) → is_accepted given ≡ false → is_done given ≡ true → ⊥
refused-done (number n) e d = false≢true d
refused-done (summed n held) e d = false≢true d
refused-done (answered (answer.Refused n)) e d = false≢true d
refused-done (answered (answer.Write l)) e d = false≢true d
refused-done (answered (answer.Line l)) e d = false≢true d
refused-done (answered (answer.Wait ms)) e d = false≢true d
refused-done (answered answer.Done) e d = false≢true (sym e)

module _ (state : State) (memory shown new : List ℕ) (slot : ℕ) (on : runs_on state.store.phase slot ≡ true)
    (holds : Holds (file_of state) shown new slot memory state.store.phase) where
  abbrev Left : Called → Type 0
  Left = KeepsPictures (file_of state) shown new slot memory

  abbrev counts : List Summary
  counts = state.store.summaries

  -- the phase stays, and no run is done
  stays : (call : Call) (given : Given) → (is_done given ≡ true → ⊥) → (summaries : List Summary) (memory' out' : List ℕ)
      → Holds (file_of state) shown new slot memory' state.store.phase
      → Left (leaving call memory given (with_summaries state summaries) memory' out')
  stays call given none summaries memory' out' held = record { lent = refl; holds = held; over = λ d. absurd (none d) }

  polled_left : (run : Run) (tick : Tick) (out : List ℕ) (o : Outcome) → Polled (file_of state) shown new slot o
      → Left (polled_to state memory run tick out o)
  polled_left run tick out (outcome given phase memory' out') left = record { lent = refl; holds = left.0; over = left.1 }

  -- a run under way has its pictures in the memory
  held_by : (run : Run) → state.store.phase ≡ Running run → (run' : Run) → Holds (file_of state) shown new slot memory (Running run')
  held_by run at run' = again (subst (Holds (file_of state) shown new slot memory) at holds)
    where
      again : Holds (file_of state) shown new slot memory (Running run) → Holds (file_of state) shown new slot memory (Running run')
      again (same s n) = same s n

  effect_leaves : {call : Call} {called : Called} → Effect state memory call called → turns called.seen ≡ false → Left called
  effect_leaves (effects.refuses call given e) f = stays call given (refused-done given e) counts memory (out_of call) holds
  effect_leaves (effects.reads call out' e t) f = stays call (number 0) false≢true counts memory out' holds
  effect_leaves (effects.tells t held u) f = stays (summary t) (summed 0 held) false≢true counts memory [] holds
  effect_leaves (effects.draws call t picture e u may long) f =
      let memory' = with_picture (sizes_of state).bytes (sizes_of state).rows memory t picture in
      stays call (number 0) false≢true _ memory' (out_of call)
      (other_changed (file_of state) shown new slot memory memory' t may.takes.low
      (others_kept (sizes_of state).bytes (sizes_of state).rows state.store.slots memory u.exact t may.takes.high picture long)
      state.store.phase on may.not_runs holds)
  effect_leaves (effects.begins t u may) f = record { lent = refl; holds = holds; over = λ d. absurd (false≢true d) }
  effect_leaves (effects.fills call act writes kind t is) f =
      record {
        lent = refl;
        holds =
            other_changed (file_of state) shown new slot memory (filled_to state memory call act writes).memory state.store.fill.slot
            (filled_low state.store.fill is) (filled_others state memory t kind) state.store.phase on
            (valid-state t.valid).fill_apart holds;
        over = λ d. absurd (false≢true d);
      }
  effect_leaves (effects.starts t tick u may) f = absurd (false≢true (sym f))
  effect_leaves (effects.abandons t is) f = absurd (false≢true (sym f))
  effect_leaves (effects.waits tick out run moment at before) f =
      record { lent = refl; holds = held_by run at.runs _; over = λ d. absurd (false≢true d) }
  effect_leaves (effects.hands tick out run moment at due) f =
      let held = held_by run at.runs in
      polled_left run tick out (hand_out (file_of state) run tick moment memory out run.next)
      (by_handed (file_of state) run tick moment memory out (Polled (file_of state) shown new slot)
      (λ step next. (held _, λ d. absurd (false≢true d)))
      (λ first stage frame row. (held _, λ d. absurd (false≢true d)))
      (idle, λ d. refl) run.next)

-- ---- what an event puts out

-- a line of the memory is that of the pictures in it
line-put : (file memory : List ℕ) (slot stage row : ℕ)
    → line_bytes file memory slot stage row
    ≡ line_put file (slot_picture (row_bytes_in file) (rows_in file) memory 0) (slot_picture (row_bytes_in file) (rows_in file) memory slot) stage row
unfolding picture_of_stage
line-put file memory slot stage row =
    ap (λ (p : List ℕ). handed_line (row_bytes_in file) (rows_in file) stage row (row_dot (picture_row (row_bytes_in file) p row)))
    (picked (leb stage 2))
  where
    picked : (test : Bool)
        → slot_picture (row_bytes_in file) (rows_in file) memory (cond test 0 slot)
        ≡ cond test (slot_picture (row_bytes_in file) (rows_in file) memory 0) (slot_picture (row_bytes_in file) (rows_in file) memory slot)
    picked true = refl
    picked false = refl

-- what hands nothing out puts nothing out
nothing_put : (given : Given) → hands_out given ≡ false → puts_any given ≡ false
nothing_put (number n) e = refl
nothing_put (summed n held) e = refl
nothing_put (answered (answer.Refused n)) e = refl
nothing_put (answered (answer.Wait ms)) e = refl
nothing_put (answered (answer.Write l)) e = absurd (false≢true (sym e))
nothing_put (answered (answer.Line l)) e = absurd (false≢true (sym e))
nothing_put (answered answer.Done) e = absurd (false≢true (sym e))

module _ (file shown new : List ℕ) (slot : ℕ) where
  goes_put : {to_come rest : List Thing} {e : Event} → Goes file slot to_come e rest
      → slot_picture (row_bytes_in file) (rows_in file) (memory_by e) 0 ≡ shown
      → slot_picture (row_bytes_in file) (rows_in file) (memory_by e) slot ≡ new
      → handed_by e ++ things_put file shown new rest ≡ things_put file shown new to_come
  goes_put (nothing {given = given} e) s n = rw (nothing_put given e)
  goes_put (hands (a_write step)) s n = refl
  goes_put (hands {memory = memory} (a_line stage frame row) {rest}) s n =
      let e : line_bytes file memory slot stage row ≡ line_put file shown new stage row =
      line-put file memory slot stage row
      ∙ ap (λ (p : List ℕ). line_put file p (slot_picture (row_bytes_in file) (rows_in file) memory slot) stage row) s
      ∙ ap (λ (p : List ℕ). line_put file shown p stage row) n in
      ap (λ (bytes : List ℕ). bytes ∷ things_put file shown new rest) e
  goes_put (hands the_end) s n = refl

  -- with nothing to come nothing is put out
  goes_none : {to_come rest : List Thing} {e : Event} → Goes file slot to_come e rest → to_come ≡ []
      → (rest ≡ []) × (handed_by e ++ things_put file shown new rest ≡ things_put file shown new to_come)
  goes_none (nothing {given = given} e) z = (z, rw (nothing_put given e))
  goes_none (hands thing {rest}) z = absurd (let q : suc (length rest) ≡ 0 = ap length z in omega arith)

  goes_held : (phase : Phase) {rest : List Thing} {e : Event} → Goes file slot (things_in file phase) e rest
      → Holds file shown new slot (memory_by e) phase → handed_by e ++ things_put file shown new rest ≡ things_put file shown new (things_in file phase)
  goes_held Idle goes idle = (goes_none goes refl).1
  goes_held Abandoned goes gone = (goes_none goes refl).1
  goes_held (Running run) goes (same s n) = goes_put goes s n

  -- ---- every list of calls

  record Shown (to_come : List Thing) (events : List Event) : Type 0 where
    pub rest : List Thing
    pub parts : all_put events ++ things_put file shown new rest ≡ things_put file shown new to_come
    pub none : to_come ≡ [] → rest ≡ []
    pub done : was_done events ≡ true → rest ≡ []

  all_shown : (state : State) → file_of state ≡ file → state_valid state ≡ true → runs_on state.store.phase slot ≡ true
      → (memory : List ℕ) → Holds file shown new slot memory state.store.phase
      → (calls : List Call) → no_turns (events_of state memory calls) ≡ true
      → Shown (things_in file state.store.phase) (events_of state memory calls)
  all_shown state e ok on memory holds [] f =
      record { rest = things_in file state.store.phase; parts = refl; none = λ z. z; done = λ z. absurd (false≢true z) }
  all_shown state e ok on memory holds (call ∷ calls) f =
      let now = call_on state memory call in
      let events = events_of now.state now.memory calls in
      let quiet = not-true _ (and_left (not (turns now.seen)) (no_turns events) f) in
      let one =
      subst (λ (s : List ℕ). Onward s slot (things_in s state.store.phase) (call_on state memory call)) e
      (call_on_lem state memory slot ok on call quiet) in
      let left =
      subst (λ (s : List ℕ). Holds s shown new slot memory state.store.phase → KeepsPictures s shown new slot memory (call_on state memory call)) e
      (λ p. effect_leaves state memory shown new slot on p (effect state memory call) quiet) holds in
      let later =
      all_shown now.state one.file_kept (stays_valid state memory ok call) one.slot_kept now.memory left.holds calls
      (and_right (not (turns now.seen)) (no_turns events) f) in
      let here = goes_held state.store.phase one.goes (rw left.lent holds) in
      record {
        rest = later.rest;
        parts =
            append_assoc (handed_by now.seen) (all_put events) (things_put file shown new later.rest)
            ∙ ap (λ (l : List (List ℕ)). handed_by now.seen ++ l) later.parts
            ∙ here;
        none = λ z. later.none (goes_none one.goes z).0;
        done = λ z. ⊎_elim (λ d. later.none (left.over d)) (λ d. later.done d) (either (is_done_by now.seen) (was_done events) z);
      }

-- the theorem
pub equal_frames : EqualFrames
unfolding starting
equal_frames state memory slot tick calls accepted =
    let file = file_of state in
    let shown = slot_picture (row_bytes_in file) (rows_in file) memory 0 in
    let new = slot_picture (row_bytes_in file) (rows_in file) memory slot in
    by_cases
    (λ (r : Reply).
    r.number ≡ 0 → state_valid r.state ≡ true → no_turns (events_of r.state memory calls) ≡ true
    → Shows (run_put file shown new) (events_of r.state memory calls))
    (start_cases state (length memory) slot) (λ n. reply n state) (reply 0 (with_phase state (Running (begun slot tick)))) refl
    (λ n e z. absurd (eqb-false n 0 e z))
    (λ free z ok quiet.
    let all = all_shown file shown new slot _ refl ok (eq-eqb slot slot refl) memory (same refl refl) calls quiet in
    record {
      to_come = things_put file shown new all.rest;
      parts = all.parts ∙ put_run file shown new;
      done = λ d. ap (things_put file shown new) (all.done d);
    })
    accepted
    (valid_kept state memory (start slot tick) (eq-eqb _ 0 accepted))
