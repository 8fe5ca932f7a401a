-- Document 01: a frame is all Y rows from row 0; a stage is N equal frames. What a run puts out, as a plain list over the shown and the
-- new picture as they were at its start, whatever is called in between.
-- Assumes nothing.
use Rattle.std.specs.Prelude.{ℕ, zero, suc, ◌+◌, ◌≡◌, Bool, true, false, cond, ◌||◌, List, [], ◌∷◌, ◌++◌, length}
use Rattle.panel.specs.Dots.{row_dot}
use Rattle.wire.specs.Registers.{register_write}
use Rattle.wire.specs.Line.{handed_line}
use Rattle.settings.specs.Settings.{Step, write, wait, malformed, start_steps, stop_steps, row_bytes_in, rows_in}
use Rattle.picture.specs.Slots.{slot_picture, picture_row}
use Rattle.balance.specs.Sums.{picture_of_stage}
use Rattle.run.specs.Due.{run_frames}
use Rattle.run.specs.declared.Tick.{Tick}
use Rattle.poll.specs.declared.Answer.{Answer}
use Rattle.poll.specs.declared.Answer.TheVariants as answer
use Rattle.board.specs.State.{file_of}
use Rattle.board.specs.Calls.{starting}
use Rattle.board.specs.History.{Call, Given, number, answered, summed, is_done, Event, event, events_of}
use Rattle.theorems.specs.Progress.{no_turns}
use Rattle.board.specs.declared.State.{State}

-- ---- what a run puts out

-- the register writes among steps
abbrev pub writes_put : List Step → List (List ℕ)
writes_put [] = []
writes_put (write register bytes ∷ steps) = register_write register bytes ∷ writes_put steps
writes_put (wait ms ∷ steps) = writes_put steps
writes_put (malformed ∷ steps) = writes_put steps

-- `count` times the same
abbrev pub times : ℕ → List (List ℕ) → List (List ℕ)
times zero puts = []
times (suc count) puts = puts ++ times count puts

module _ (file shown new : List ℕ) where
  -- the line of a row, and the write after it: stages 1 and 2 look at the shown picture, stages 3 and 4 at the new one
  abbrev pub line_put : (stage row : ℕ) → List ℕ
  line_put stage row =
      handed_line (row_bytes_in file) (rows_in file) stage row
      (row_dot (picture_row (row_bytes_in file) (picture_of_stage stage shown new) row))

  -- `count` rows from `row` on
  abbrev pub rows_put : (stage row count : ℕ) → List (List ℕ)
  rows_put stage row zero = []
  rows_put stage row (suc count) = line_put stage row ∷ rows_put stage (row + 1) count

  -- a frame is all rows from row 0
  abbrev pub frame_put : (stage : ℕ) → List (List ℕ)
  frame_put stage = rows_put stage 0 (rows_in file)

  -- a stage is N equal frames
  abbrev pub stage_put : (stage : ℕ) → List (List ℕ)
  stage_put stage = times (run_frames file) (frame_put stage)

  -- start writes, stages 1 to 4, stop writes
  abbrev pub run_put : List (List ℕ)
  run_put = writes_put (start_steps file) ++ (stage_put 1 ++ (stage_put 2 ++ (stage_put 3 ++ (stage_put 4 ++ writes_put (stop_steps file)))))

-- ---- what was put out, read from events

-- a write or a line was put out
abbrev pub puts_bytes : Answer → Bool
puts_bytes (answer.Refused n) = false
puts_bytes (answer.Wait ms) = false
puts_bytes (answer.Write l) = true
puts_bytes (answer.Line l) = true
puts_bytes answer.Done = false

abbrev pub puts_any : Given → Bool
puts_any (number n) = false
puts_any (summed n held) = false
puts_any (answered given) = puts_bytes given

abbrev pub handed_by : Event → List (List ℕ)
handed_by (event call memory given put) = cond (puts_any given) (put ∷ []) []

abbrev pub all_put : List Event → List (List ℕ)
all_put [] = []
all_put (e ∷ es) = handed_by e ++ all_put es

-- the run was done
abbrev pub is_done_by : Event → Bool
is_done_by (event call memory given put) = is_done given

abbrev pub was_done : List Event → Bool
was_done [] = false
was_done (e ∷ es) = is_done_by e || was_done es

-- ---- the statement

-- what was put out is the first part of what the run puts out, and all of it once the run is done
pub record Shows (whole : List (List ℕ)) (events : List Event) : Type 0 where
  pub to_come : List (List ℕ)
  pub parts : all_put events ++ to_come ≡ whole
  pub done : was_done events ≡ true → to_come ≡ []

-- since an accepted start, whatever is called, as long as no other start and no abandon is accepted: the pictures are those of slot 0 and
-- of the run's slot in the memory that the start was lent
abbrev pub EqualFrames : Type 0
EqualFrames =
    (state : State) (memory : List ℕ) (slot : ℕ) (tick : Tick) (calls : List Call)
    → (starting state (length memory) slot tick).number ≡ 0
    → no_turns (events_of (starting state (length memory) slot tick).state memory calls) ≡ true
    → Shows
    (run_put (file_of state) (slot_picture (row_bytes_in (file_of state)) (rows_in (file_of state)) memory 0)
    (slot_picture (row_bytes_in (file_of state)) (rows_in (file_of state)) memory slot))
    (events_of (starting state (length memory) slot tick).state memory calls)
