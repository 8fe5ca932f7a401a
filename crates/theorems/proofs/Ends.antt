-- A run comes to its end where polls keep coming: once as many things were handed out as it has, it is over; a poll that comes no
-- earlier than the next thing is due hands it out; and a wait answer tells exactly when that is.
-- Assumes nothing.
use mathlib.Core.Path.{◌≡◌, refl, sym, ap, ◌∙◌}
use mathlib.Core.Bool.{true, false}
use mathlib.Core.List.{List, [], ◌∷◌, ◌++◌, append_assoc}
use Prim.Native.Nat.{ℕ, suc, ◌+◌, ◌-◌, ◌≤◌, ◌<◌}
use native.Mathlib.Omega.{arith}
use borrow.Author.Tests.{lt-ltb, le-ltb}
use lib.ListN.{length, drop}
use Rattle.lists.proofs.Rules.{or_left, or_right}
use Rattle.settings.specs.Settings.{start_steps, stop_steps, rows_in}
use Rattle.run.specs.Clock.{step_from, passed_at, clock_refused}
use Rattle.run.specs.Due.{run_frames, due_at, due_of}
use Rattle.run.specs.Runs.{waited}
use Rattle.run.specs.declared.Tick.{Tick}
use Rattle.run.specs.declared.Passed.{Passed}
use Rattle.run.specs.declared.Position.{Position}
use Rattle.run.specs.declared.Position.TheVariants.{Start, Line, Stop}
use Rattle.run.specs.declared.Run.{Run}
use Rattle.poll.specs.Poll.{poll_at, poll_run}
use Rattle.poll.specs.declared.Answer.TheVariants.{Wait}
use Rattle.run.specs.declared.Phase.{Phase}
use Rattle.run.specs.declared.Phase.TheVariants.{Idle, Abandoned, Running}
use Rattle.store.specs.Refusals.{is_running}
use Rattle.board.specs.State.{file_of}
use Rattle.board.specs.Calls.{starting}
use Rattle.board.specs.History.{Call, Event, answered, is_done, events_of}
use Rattle.theorems.specs.Order.{Thing, a_write, a_line, the_end, writes_of, rows_from, frames_from, stages_from, things_of_run, things_from, things_in, thing_answer}
use Rattle.theorems.specs.Progress.{is_hand_out, hands_out, AllGo, none, more, nothing, hands, no_turns, state_after, hand_outs, answer_in}
use Rattle.theorems.specs.Frames.{was_done}
use Rattle.board.specs.declared.State.{State}
use Rattle.theorems.proofs.Handed.{hands_some}
use Rattle.theorems.proofs.Progress.{run_in_order}

-- ---- as many things as a run has

thing-hands : (file memory : List ℕ) (slot : ℕ) (thing : Thing) → hands_out (answered (thing_answer file memory slot thing)) ≡ true
thing-hands file memory slot (a_write step) = refl
thing-hands file memory slot (a_line stage frame row) = refl
thing-hands file memory slot the_end = refl

hands-counted : {file : List ℕ} {slot : ℕ} {to_come rest : List Thing} {es : List Event} → AllGo file slot to_come es rest
    → length to_come ≡ hand_outs es + length rest
hands-counted none = omega arith
hands-counted (more (nothing e) all) = rw e (omega (arith, hands-counted all))
hands-counted {file} {slot} (more (hands {memory = memory} thing) all) =
    rw (thing-hands file memory slot thing) (omega (arith, hands-counted all))

-- a run under way has something to come, the end at least
not_empty : (xs : List Thing) {ys : List Thing} → (ys ≡ [] → ⊥) → (xs ++ ys) ≡ [] → ⊥
not_empty [] some e = some e
not_empty (x ∷ xs) {ys} some e = let z : suc (length (xs ++ ys)) ≡ 0 = ap length e in omega arith

the_end_lem : (the_end ∷ []) ≡ [] → ⊥
the_end_lem e = let z : ◌≡◌ {A = ℕ} 1 0 = ap length e in omega arith

more_to_come : (file : List ℕ) (position : Position) → things_from file position ≡ [] → ⊥
more_to_come file (Start k) = not_empty (writes_of (drop k (start_steps file))) (not_empty (stages_from (rows_in file) (run_frames file) 1 4) (not_empty (writes_of (stop_steps file)) the_end_lem))
more_to_come file (Line stage frame row) =
    not_empty (rows_from stage frame row (rows_in file - row))
    (not_empty (frames_from (rows_in file) stage (frame + 1) (run_frames file - (frame + 1)))
    (not_empty (stages_from (rows_in file) (run_frames file) (stage + 1) (4 - stage)) (not_empty (writes_of (stop_steps file)) the_end_lem)))
more_to_come file (Stop k) = not_empty (writes_of (drop k (stop_steps file))) the_end_lem

over : (file : List ℕ) (phase : Phase) → length (things_in file phase) ≡ 0 → is_running phase ≡ false
over file Idle e = refl
over file Abandoned e = refl
over file (Running run) e = absurd (none_left (things_from file run.next) e (more_to_come file run.next))
  where
    none_left : (things : List Thing) → length things ≡ 0 → (things ≡ [] → ⊥) → ⊥
    none_left [] e some = some refl
    none_left (x ∷ xs) e some = let z : suc (length xs) ≡ 0 = e in omega arith

-- with as many things handed out as the run has, whatever else was called in between, it is over
pub run_ends : (state : State) (memory : List ℕ) (slot : ℕ) (tick : Tick) (calls : List Call)
    → (starting state (length memory) slot tick).number ≡ 0
    → no_turns (events_of (starting state (length memory) slot tick).state memory calls) ≡ true
    → hand_outs (events_of (starting state (length memory) slot tick).state memory calls) ≡ length (things_of_run (file_of state))
    → is_running (state_after (starting state (length memory) slot tick).state memory calls).store.phase ≡ false
run_ends state memory slot tick calls accepted quiet all =
    over (file_of state) (state_after (starting state (length memory) slot tick).state memory calls).store.phase
    (omega (arith, hands-counted (run_in_order state memory slot tick calls accepted quiet), all))

-- ---- and its last answer was done

-- where things are handed out up to the end, one of the events answered done
goes_done : {file : List ℕ} {slot : ℕ} {to_come rest : List Thing} {es : List Event} → AllGo file slot to_come es rest
    → (before : List Thing) → to_come ≡ before ++ (the_end ∷ []) → rest ≡ [] → was_done es ≡ true
goes_done none before e z = absurd (not_empty before the_end_lem (sym e ∙ z))
goes_done (more (nothing {given = given} q) all) before e z = or_right (is_done given) _ (goes_done all before e z)
goes_done {file} {slot} (more (hands {memory = memory} thing) all) [] e z =
    let is : thing ≡ the_end = cc in
    let done : is_done (answered (thing_answer file memory slot thing)) ≡ true = rw is in
    or_left _ _ done
goes_done {file} {slot} (more (hands {memory = memory} thing) all) (x ∷ before) e z =
    or_right (is_done (answered (thing_answer file memory slot thing))) _ (goes_done all before (let q : _ ≡ _ = cc in q) z)

-- the end is the last of the things of a run
run_last : (file : List ℕ)
    → things_of_run file
    ≡ (writes_of (start_steps file) ++ (stages_from (rows_in file) (run_frames file) 1 4 ++ writes_of (stop_steps file))) ++ (the_end ∷ [])
run_last file =
    let a = writes_of (start_steps file) in
    let b = stages_from (rows_in file) (run_frames file) 1 4 in
    let c = writes_of (stop_steps file) in
    sym (append_assoc a (b ++ c) (the_end ∷ []) ∙ ap (λ (l : List Thing). a ++ l) (append_assoc b c (the_end ∷ [])))

pub all_done : {file : List ℕ} {slot : ℕ} {rest : List Thing} {es : List Event} → AllGo file slot (things_of_run file) es rest
    → hand_outs es ≡ length (things_of_run file) → was_done es ≡ true
all_done {file} {slot} {rest} go all =
    goes_done go (writes_of (start_steps file) ++ (stages_from (rows_in file) (run_frames file) 1 4 ++ writes_of (stop_steps file))) (run_last file) (none_left rest (omega (arith, hands-counted go, all)))
  where
    none_left : (things : List Thing) → length things ≡ 0 → things ≡ []
    none_left [] e = refl
    none_left (x ∷ xs) e = absurd (let z : suc (length xs) ≡ 0 = e in omega arith)

-- ---- a poll that is due

module _ (file : List ℕ) (run : Run) (tick : Tick) (memory out : List ℕ) where
  module _ (room : 117 ≤ length out) (forward : clock_refused run.passed run.last tick ≡ false) where
    pub due_hands : due_of file run ≤ passed_at run.passed run.last tick → is_hand_out (answer_in (poll_run file run tick memory out)) ≡ true
    unfolding poll_run poll_at
    due_hands due =
        rw (le-ltb (length out) 117 room, forward, le-ltb (passed_at run.passed run.last tick) (due_of file run) due)
        (hands_some file run tick (record { 0 = passed_at run.passed run.last tick }) memory out run.next)

    -- one that comes earlier is told the ms until then
    pub early_waits : passed_at run.passed run.last tick < due_of file run
        → answer_in (poll_run file run tick memory out) ≡ Wait (due_of file run - passed_at run.passed run.last tick)
    unfolding poll_run poll_at
    early_waits early =
        rw (le-ltb (length out) 117 room, forward, lt-ltb (passed_at run.passed run.last tick) (due_of file run) early)

-- ---- after a wait answer

-- it moves no due moment
due_waited : (file : List ℕ) (run : Run) (tick : Tick) (moment : Passed) → due_of file (waited run tick moment) ≡ due_of file run
unfolding due_of
due_waited file run tick moment = at run.next
  where
    at : (position : Position) → due_at file (waited run tick moment) position ≡ due_at file run position
    at (Start k) = refl
    at (Line stage frame row) = refl
    at (Stop k) = refl

-- so a poll that many ms after it hands the thing out
pub after_wait : (file : List ℕ) (run : Run) (tick later : Tick) (moment : Passed) (memory out : List ℕ) → 117 ≤ length out
    → clock_refused moment tick later ≡ false → due_of file run - moment.0 ≤ step_from tick later
    → is_hand_out (answer_in (poll_run file (waited run tick moment) later memory out)) ≡ true
after_wait file run tick later moment memory out room forward enough =
    due_hands file (waited run tick moment) later memory out room forward
    (rw (due_waited file run tick moment) (omega (arith, enough)))
