-- Every effect of a call is one move of crate balance: refusals, waits, writes, uploads and fills push nothing, a line is the next draw, and done
-- leaves the run at rest.
-- Assumes nothing.
use mathlib.Core.Path.{◌≡◌, refl, sym, subst}
use mathlib.Core.Bool.{true, false, cond, false≢true}
use mathlib.Core.List.{List, [], ◌∷◌}
use Prim.Native.Nat.{ℕ, ◌+◌, ◌-◌, ◌*◌, ◌≤◌}
use lib.Dec.{eqb}
use lib.ListN.{length, drop}
use Rattle.panel.specs.Dots.{dot}
use Rattle.panel.proofs.Panels.{size_of}
use Rattle.settings.specs.Settings.{Step, panel_of, start_count, start_steps, stop_section, stop_count, stop_steps, settings_good, writes_to, row_bytes_in, rows_in}
use Rattle.settings.specs.Steps.{from_write}
use Rattle.settings.proofs.Accepted.{good-panel}
use Rattle.picture.specs.Slots.{slot_picture, with_picture}
use Rattle.picture.proofs.Slots.{others_kept, copied}
use Rattle.balance.specs.Sums.{picture_of_stage}
use Rattle.balance.proofs.Stores.{Dots, Place, line, all_out, next_place, View, Move}
use Rattle.balance.proofs.Stores as moves
use Rattle.summary.specs.declared.Summary.{Summary}
use Rattle.run.specs.Due.{run_frames, due_of}
use Rattle.run.specs.Runs.{waited, moved}
use Rattle.run.specs.declared.Tick.{Tick}
use Rattle.run.specs.declared.Passed.{Passed}
use Rattle.run.specs.declared.Position.{Position}
use Rattle.run.specs.declared.Position.TheVariants.{Start, Line, Stop}
use Rattle.run.specs.declared.Run.{Run}
use Rattle.run.specs.declared.Phase.{Phase}
use Rattle.run.specs.declared.Phase.TheVariants.{Abandoned, Running}
use Rattle.run.proofs.Valid.{valid}
use Rattle.poll.specs.Answers.{answer_number, put_out}
use Rattle.poll.specs.HandOut.{Outcome, outcome, step_bytes, line_bytes, send_write, send_line, hand_start, hand_stop, hand_out}
use Rattle.poll.specs.declared.Answer.{Answer}
use Rattle.poll.specs.declared.Answer.TheVariants as answer
use Rattle.store.specs.Refusals.{is_running, is_abandoned}
use Rattle.store.proofs.Conditions.{valid-state, run_of}
use Rattle.board.specs.State.{file_of, sizes_of, with_summaries}
use Rattle.board.specs.History.{Call, start, abandon, summary, Part, starts, polls, abandons, no_part, part_of, Given, number, answered, summed, is_accepted, is_done_answer, abandoned, under_way, Seen, after_done, after_call, Called}
use Rattle.board.specs.declared.State.{State}
use Rattle.board.proofs.Effects as effects
use Rattle.board.proofs.Effects.{Effect, At, filled_to, polled_to}
use Rattle.board.proofs.Filled.{fills_apart, filled_low, filled_others}
use Rattle.board.proofs.Views.{place_of, place_next, Sees, rests, runs, stopped, Agree, Leads, AgreeIn, LeadsIn, OneMove, silent_none, stays, agree_other, no_move}
use Rattle.board.proofs.Lines.{head_no_line, rest_no_line, silent_step, silent_out, drives_out, line_drives}

-- what a poll leaves is one move from a view
abbrev Moved : (file memory : List ℕ) (seen : Seen) (view : View) → Outcome → Type 0
Moved file memory seen view (outcome answer phase memory' out') =
    LeadsIn file view (put_out answer out') phase memory'
    (cond (is_done_answer answer) (after_done (row_bytes_in file) (rows_in file) memory seen seen.standing) seen)

-- ---- a run under way

module _ (file : List ℕ) (run : Run) (tick : Tick) (memory out : List ℕ) (seen : Seen) (good : settings_good file ≡ true)
    (stands : seen.standing ≡ under_way run.slot)
    (shows : slot_picture (row_bytes_in file) (rows_in file) memory 0 ≡ seen.shown) where
  abbrev b : ℕ
  b = row_bytes_in file

  abbrev h : ℕ
  h = rows_in file

  abbrev N : ℕ
  N = run_frames file

  abbrev shown : Dots
  shown = dot b (slot_picture b h memory 0)

  abbrev new : Dots
  new = dot b (slot_picture b h memory run.slot)

  -- an outcome is one move from a place of the run
  abbrev Onward : Place → Outcome → Type 0
  Onward place = Moved file memory seen (moves.updating shown new place)

  module _ (moment : Passed) where
    pub early : (ms : ℕ) → Onward (place_of run.next) (outcome (answer.Wait ms) (Running (waited run tick moment)) memory out)
    early ms = no_move file (record { sees = runs; stands = stands; shows = shows })

    -- the run goes on from a position
    agree_moved : (first : Passed) (next : Position)
        → AgreeIn file (Running (moved run tick moment first next)) memory seen (moves.updating shown new (place_of next))
    agree_moved first next = record { sees = runs; stands = stands; shows = shows }

    writes : (step : Step) (steps : List Step) (next : Position) → writes_to 0x0A (step ∷ steps) ≡ false
        → Onward (place_of next) (send_write file run tick moment memory out step next)
    writes step steps next e =
        stays b h (silent_out b h (step_bytes step) out (silent_step b h step (head_no_line step steps e).0))
        (agree_moved run.first next)

    draws : (first : Passed) (stage frame row : ℕ)
        → Onward (line stage frame row) (send_line file run tick moment memory out first stage frame row)
    draws first stage frame row =
        let fours = (size_of (panel_of file) (good-panel file good)).fours in
        record {
          next = moves.updating shown new (next_place h N stage frame row);
          move = moves.draw
              (drives_out b h (line_bytes file memory run.slot stage row) out stage row (picture_of_stage stage shown new)
              (line_drives b h memory run.slot stage row fours));
          agree = rw (← place_next h N stage frame row) (agree_moved first _);
        }

    start_steps_lem : (steps : List Step) → writes_to 0x0A steps ≡ false
        → Onward (line 1 0 0) (hand_start file run tick moment memory out steps)
    start_steps_lem [] e = draws moment 1 0 0
    start_steps_lem (step ∷ steps) e = writes step steps (Start (start_count file - length steps)) e

    module _ (n : ℕ) (exact : length memory ≡ (n + 1) * (h * b)) (high : run.slot ≤ n) where
      finishes : Onward all_out (hand_stop file run tick moment memory out [])
      finishes =
          let now = copied b h n memory exact run.slot high in
          rw stands
          (record {
            next = moves.resting new;
            move = moves.done (silent_none b h);
            agree = record { sees = rw (← now) rests; stands = refl; shows = now };
          })

      stop_steps_lem : (steps : List Step) → writes_to 0x0A steps ≡ false → Onward all_out (hand_stop file run tick moment memory out steps)
      stop_steps_lem [] e = finishes
      stop_steps_lem (step ∷ steps) e = writes step steps (Stop (stop_count file - length steps)) e

      pub hands_out_lem : (position : Position) → Onward (place_of position) (hand_out file run tick moment memory out position)
      hands_out_lem (Start k) =
          start_steps_lem (from_write (drop k (start_steps file)))
          (rest_no_line (panel_of file) (start_count file) (drop 3 file) k)
      hands_out_lem (Line stage frame row) = draws run.first stage frame row
      hands_out_lem (Stop k) =
          stop_steps_lem (from_write (drop k (stop_steps file)))
          (rest_no_line (panel_of file) (stop_count file) (drop 1 (stop_section file)) k)

-- ---- start and abandon, on pictures of any size

module _ (b h N : ℕ) (memory : List ℕ) where
  -- a run starts where none is under way or abandoned
  begins : {phase : Phase} {view : View} (new : Dots) → is_running phase ≡ false → is_abandoned phase ≡ false → Sees b h memory phase view
      → Move b h N view [] (moves.updating (dot b (slot_picture b h memory 0)) new (line 1 0 0))
  begins _ idle whole rests = moves.start (silent_none b h)
  begins _ idle whole runs = absurd (false≢true (sym idle))
  begins _ idle whole stopped = absurd (false≢true (sym whole))

  -- the run under way is abandoned where it stands
  breaks_off : {phase : Phase} {view : View} (seen : Seen) → is_running phase ≡ true → Agree b h phase memory seen view
      → Leads b h N view [] Abandoned memory (record { standing = abandoned; shown = seen.shown })
  breaks_off seen running agree = by_view running agree.sees
    where
      by_view : {p : Phase} {v : View} → is_running p ≡ true → Sees b h memory p v
          → Leads b h N v [] Abandoned memory (record { standing = abandoned; shown = seen.shown })
      by_view f rests = absurd (false≢true f)
      by_view f runs =
          record {
            next = moves.abandoned _ _ _;
            move = moves.abandon (silent_none b h);
            agree = record { sees = stopped; stands = refl; shows = agree.shows };
          }
      by_view f stopped = absurd (false≢true f)

-- ---- what is seen of a refused call changes nothing

not_done : (given : Answer) → eqb (answer_number given) 0 ≡ false → is_done_answer given ≡ false
not_done (answer.Refused n) e = refl
not_done (answer.Write n) e = refl
not_done (answer.Line n) e = refl
not_done (answer.Wait ms) e = refl
not_done answer.Done e = absurd (false≢true (sym e))

refused-seen : (b h : ℕ) (memory : List ℕ) (seen : Seen) (part : Part) (given : Given) → is_accepted given ≡ false
    → after_call b h memory seen part given ≡ seen
refused-seen b h memory seen (starts slot tick) given e = rw e
refused-seen b h memory seen (polls tick) (number n) e = refl
refused-seen b h memory seen (polls tick) (answered given) e = rw (not_done given e)
refused-seen b h memory seen (polls tick) (summed n held) e = refl
refused-seen b h memory seen abandons given e = rw e
refused-seen b h memory seen no_part given e = refl

-- ---- every effect

module _ (state : State) (memory : List ℕ) (seen : Seen) (view : View)
    (agree : AgreeIn (file_of state) state.store.phase memory seen view) where
  abbrev b₁ : ℕ
  b₁ = (sizes_of state).bytes

  abbrev h₁ : ℕ
  h₁ = (sizes_of state).rows

  abbrev OneMoveTo : Called → Type 0
  OneMoveTo = OneMove (file_of state) view seen

  -- the summaries, the memory or the output may change where nothing depends on it
  apart : (call : Call) (given : Given) (summaries : List Summary) (memory' : List ℕ) → part_of call ≡ no_part
      → AgreeIn (file_of state) state.store.phase memory' seen view → (out' : List ℕ)
      → OneMoveTo (effects.leaving call memory given (with_summaries state summaries) memory' out')
  apart call given summaries memory' e kept out' = record { file_kept = refl; leads = rw e (no_move (file_of state) kept) }

  module _ (tick : Tick) (out : List ℕ) (run : Run) (moment : Passed) (at : At state memory tick run moment) where
    running : AgreeIn (file_of state) (Running run) memory seen view
    running = subst (λ (p : Phase). AgreeIn (file_of state) p memory seen view) at.runs agree

    in_state_lem : (o : Outcome) → Moved (file_of state) memory seen view o → OneMoveTo (polled_to state memory run tick out o)
    in_state_lem (outcome given phase memory' out') leads = record { file_kept = refl; leads = leads }

    waiting : (ms : ℕ) {v : View} → Sees b₁ h₁ memory (Running run) v
        → Moved (file_of state) memory seen v (outcome (answer.Wait ms) (Running (waited run tick moment)) memory out)
    waiting ms runs =
        let good = (valid-state at.tests.valid).good in
        early (file_of state) run tick memory out seen good running.stands agree.shows moment ms

    handing : {v : View} → Sees b₁ h₁ memory (Running run) v
        → Moved (file_of state) memory seen v (hand_out (file_of state) run tick moment memory out run.next)
    handing runs =
        let t = at.tests in
        let good = (valid-state t.valid).good in
        let high = (valid (file_of state) state.store.slots run (run_of (valid-state t.valid) at.runs)).high in
        hands_out_lem (file_of state) run tick memory out seen good running.stands agree.shows moment state.store.slots t.exact high
        run.next

  pub one_move : {call : Call} {called : Called} → Effect state memory call called → OneMoveTo called
  one_move (effects.refuses call given e) =
      record { file_kept = refl; leads = rw (refused-seen b₁ h₁ memory seen (part_of call) given e) (no_move (file_of state) agree) }
  one_move (effects.reads call out' e t) = apart call (number 0) state.store.summaries memory e agree out'
  one_move (effects.tells slot held t) = apart (summary slot) (summed 0 held) state.store.summaries memory refl agree []
  one_move (effects.draws call slot picture e t may long) =
      apart call (number 0) _ (with_picture b₁ h₁ memory slot picture) e
      (agree_other b₁ h₁ state.store.phase memory (with_picture b₁ h₁ memory slot picture) slot may.takes.low may.not_runs
      (others_kept b₁ h₁ state.store.slots memory t.exact slot may.takes.high picture long) agree) _
  one_move (effects.begins slot t may) = record { file_kept = refl; leads = no_move (file_of state) agree }
  one_move (effects.fills call act writes kind t is) =
      let memory' = (filled_to state memory call act writes).memory in
      record {
        file_kept = refl;
        leads =
            rw (fills_apart kind)
            (no_move (file_of state)
            (agree_other b₁ h₁ state.store.phase memory memory' state.store.fill.slot (filled_low state.store.fill is)
            (valid-state t.valid).fill_apart (filled_others state memory t kind) agree));
      }
  one_move (effects.starts slot tick t may) =
      record {
        file_kept = refl;
        leads = record {
          next = _;
          move = begins b₁ h₁ (run_frames (file_of state)) memory (dot b₁ (slot_picture b₁ h₁ memory slot)) may.idle may.whole agree.sees;
          agree = record { sees = runs; stands = refl; shows = agree.shows };
        };
      }
  one_move (effects.abandons t is) =
      record { file_kept = refl; leads = breaks_off b₁ h₁ (run_frames (file_of state)) memory seen is agree }
  one_move (effects.waits tick out run moment at before) =
      let ms = due_of (file_of state) run - moment.0 in
      in_state_lem tick out run moment at (outcome (answer.Wait ms) (Running (waited run tick moment)) memory out)
      (waiting tick out run moment at ms (running tick out run moment at).sees)
  one_move (effects.hands tick out run moment at due) =
      in_state_lem tick out run moment at (hand_out (file_of state) run tick moment memory out run.next)
      (handing tick out run moment at (running tick out run moment at).sees)
