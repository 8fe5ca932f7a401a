-- Document 01, "The run and its time": what a run hands out next. A run has a settings file and shows a slot of the memory.
-- Assumes nothing.
use Rattle.std.specs.Prelude.{ℕ, ◌-◌, List, [], ◌∷◌, length, drop}
use Rattle.lists.specs.Lists.{overlay}
use Rattle.panel.specs.Dots.{row_dot}
use Rattle.wire.specs.Registers.{register_write}
use Rattle.wire.specs.Line.{handed_line}
use Rattle.settings.specs.Settings.{Step, write, wait, malformed, start_count, start_steps, stop_count, stop_steps, row_bytes_in, rows_in}
use Rattle.settings.specs.Steps.{from_write}
use Rattle.picture.specs.Slots.{slot_bytes, with_bytes, slot_picture, picture_row}
use Rattle.balance.specs.Sums.{picture_of_stage}
use Rattle.run.specs.Place.{next_position}
use Rattle.run.specs.Due.{run_frames}
use Rattle.run.specs.Runs.{moved}
use Rattle.run.specs.declared.Tick.{Tick}
use Rattle.run.specs.declared.Passed.{Passed}
use Rattle.run.specs.declared.Position.{Position}
use Rattle.run.specs.declared.Position.TheVariants.{Start, Line, Stop}
use Rattle.run.specs.declared.Run.{Run}
use Rattle.poll.specs.declared.Answer.{Answer}
use Rattle.poll.specs.declared.Answer.TheVariants as answer
use Rattle.run.specs.declared.Phase.{Phase}
use Rattle.run.specs.declared.Phase.TheVariants.{Idle, Running}

-- the answer, the phase of the store afterwards, and the picture memory and the output at exit
pub data Outcome : Type 0 where
  outcome : (answer : Answer) (phase : Phase) (memory out : List ℕ) → Outcome

-- the bytes of a step: a register write; nothing else is handed out
abbrev pub step_bytes : Step → List ℕ
step_bytes (write register bytes) = register_write register bytes
step_bytes (wait ms) = []
step_bytes malformed = []

-- the line of a row in a stage, and the write after it: stages 1 and 2 look at slot 0, stages 3 and 4 at the run's slot
abbrev pub line_bytes : (file memory : List ℕ) (slot stage row : ℕ) → List ℕ
line_bytes file memory slot stage row =
    handed_line (row_bytes_in file) (rows_in file) stage row
    (row_dot (picture_row (row_bytes_in file) (slot_picture (row_bytes_in file) (rows_in file) memory (picture_of_stage stage 0 slot)) row))

-- the memory with the run's slot copied to slot 0
abbrev pub shown_after : (file memory : List ℕ) (slot : ℕ) → List ℕ
shown_after file memory slot =
    with_bytes (row_bytes_in file) (rows_in file) memory 0 (slot_bytes (row_bytes_in file) (rows_in file) memory slot)

module _ (file : List ℕ) (run : Run) (tick : Tick) (moment : Passed) (memory out : List ℕ) where
  -- a write goes out, and the run goes on from a position
  abbrev pub send_write : Step → Position → Outcome
  send_write step next =
      outcome (answer.Write (length (step_bytes step))) (Running (moved run tick moment run.first next)) memory
      (overlay (step_bytes step) out)

  -- a line goes out; F is `first`
  abbrev pub send_line : (first : Passed) (stage frame row : ℕ) → Outcome
  send_line first stage frame row =
      outcome (answer.Line (length (line_bytes file memory run.slot stage row)))
      (Running (moved run tick moment first (next_position (rows_in file) (run_frames file) stage frame row)))
      memory
      (overlay (line_bytes file memory run.slot stage row) out)

  -- the start steps from the next write on; after them the first line, whose moment is F
  abbrev pub hand_start : List Step → Outcome
  hand_start [] = send_line moment 1 0 0
  hand_start (step ∷ steps) = send_write step (Start (start_count file - length steps))

  -- the stop steps from the next write on; after them done: the run's slot becomes the shown picture
  abbrev pub hand_stop : List Step → Outcome
  hand_stop [] = outcome answer.Done Idle (shown_after file memory run.slot) out
  hand_stop (step ∷ steps) = send_write step (Stop (stop_count file - length steps))

  abbrev pub hand_out : Position → Outcome
  hand_out (Start k) = hand_start (from_write (drop k (start_steps file)))
  hand_out (Line stage frame row) = send_line run.first stage frame row
  hand_out (Stop k) = hand_stop (from_write (drop k (stop_steps file)))
