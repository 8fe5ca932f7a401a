-- The same from any valid state, also a made-up one: what the fields of a run under way say as its past, in the words of `Timing`. What a
-- poll may do then is measured by them as if they had been read from events.
-- Assumes nothing.
use Rattle.std.specs.Prelude.{ℕ, ◌+◌, ◌-◌, ◌*◌, ◌≡◌, true, cond, List, [], ◌∷◌, ◌++◌, eqb, drop}
use Rattle.settings.specs.Settings.{start_steps, stop_steps, rows_in}
use Rattle.run.specs.Place.{frame_number}
use Rattle.run.specs.Due.{run_frames}
use Rattle.run.specs.declared.Position.{Position}
use Rattle.run.specs.declared.Position.TheVariants.{Start, Line, Stop}
use Rattle.run.specs.declared.Run.{Run}
use Rattle.run.specs.declared.Phase.{Phase}
use Rattle.run.specs.declared.Phase.TheVariants.{Idle, Abandoned, Running}
use Rattle.board.specs.State.{file_of, state_valid}
use Rattle.board.specs.History.{Call, events_of}
use Rattle.theorems.specs.Order.{the_end}
use Rattle.theorems.specs.Timing.{Item, frame_begins, out, step_items, row_items, frames_on, First, unknown, known, Watch, Observed, no_run, a_run, AllTimely}
use Rattle.board.specs.declared.State.{State}

-- what is to come from a place of a run on
module _ (file : List ℕ) where
  -- after the last frame
  abbrev pub stop_items : (k : ℕ) → List Item
  stop_items k = step_items (drop k (stop_steps file)) ++ (out the_end ∷ [])

  abbrev pub after_lines : List Item
  after_lines = frame_begins (4 * run_frames file) ∷ stop_items 0

  -- the frames from frame i on
  abbrev pub frames_left : (i : ℕ) → List Item
  frames_left i = frames_on (rows_in file) (run_frames file) i (4 * run_frames file - i)

  -- the lines from a row on, and what stands after them
  abbrev pub line_items : (stage frame row : ℕ) → List Item
  line_items stage frame row =
      row_items stage frame row (rows_in file - row)
      ++ (frames_left (frame_number (run_frames file) stage frame + 1) ++ after_lines)

  abbrev pub items_from : Position → List Item
  items_from (Start k) = step_items (drop k (start_steps file)) ++ (frames_left 0 ++ after_lines)
  items_from (Line stage frame row) =
      cond (eqb row 0) (frame_begins (frame_number (run_frames file) stage frame) ∷ line_items stage frame row) (line_items stage frame row)
  items_from (Stop k) = cond (eqb k 0) (frame_begins (4 * run_frames file) ∷ stop_items k) (stop_items k)

-- F is known from the first line on
abbrev pub first_at : (moment : ℕ) → Position → First
first_at moment (Start k) = unknown
first_at moment (Line stage frame row) = known moment
first_at moment (Stop k) = known moment

abbrev pub watch_at : (file : List ℕ) → Run → Position → Watch
watch_at file run position =
    record {
      last = run.last;
      passed = run.passed.0;
      handed = run.handed.0;
      first = first_at run.first.0 position;
      to_come = items_from file position;
    }

abbrev pub watch_of : (file : List ℕ) → Run → Watch
watch_of file run = watch_at file run run.next

abbrev pub observed_in : (file : List ℕ) → Phase → Observed
observed_in file Idle = no_run
observed_in file Abandoned = no_run
observed_in file (Running run) = a_run run.slot (watch_of file run)

abbrev pub StateOnTime : Type 0
StateOnTime =
    (state : State) (memory : List ℕ) (calls : List Call) → state_valid state ≡ true
    → AllTimely 0 (file_of state) (observed_in (file_of state) state.store.phase) (events_of state memory calls)
