-- Document 01, "The run and its time": what a run hands out, in order, as a plain list that knows neither polls nor states; and what it
-- is for a poll to keep to that list.
-- Assumes nothing.
use Rattle.std.specs.Prelude.{ℕ, zero, suc, ◌+◌, ◌-◌, ◌≡◌, List, [], ◌∷◌, ◌++◌, length, drop}
use Rattle.lists.specs.Lists.{overlay}
use Rattle.settings.specs.Settings.{Step, write, wait, malformed, start_steps, stop_steps, rows_in}
use Rattle.run.specs.Due.{run_frames}
use Rattle.run.specs.declared.Position.{Position}
use Rattle.run.specs.declared.Position.TheVariants.{Start, Line, Stop}
use Rattle.poll.specs.HandOut.{Outcome, outcome, step_bytes, line_bytes}
use Rattle.poll.specs.declared.Answer.{Answer}
use Rattle.poll.specs.declared.Answer.TheVariants as answer
use Rattle.run.specs.declared.Phase.{Phase}
use Rattle.run.specs.declared.Phase.TheVariants.{Idle, Abandoned, Running}

-- a register write, the line of a row in a frame of a stage, or the end of the run
pub data Thing : Type 0 where
  a_write : (step : Step) → Thing
  a_line : (stage frame row : ℕ) → Thing
  the_end : Thing

-- the writes among steps
abbrev pub writes_of : List Step → List Thing
writes_of [] = []
writes_of (write register bytes ∷ steps) = a_write (write register bytes) ∷ writes_of steps
writes_of (wait ms ∷ steps) = writes_of steps
writes_of (malformed ∷ steps) = writes_of steps

-- the lines of `count` rows from `row` on
abbrev pub rows_from : (stage frame row count : ℕ) → List Thing
rows_from stage frame row zero = []
rows_from stage frame row (suc count) = a_line stage frame row ∷ rows_from stage frame (row + 1) count

-- the lines of `count` frames from `frame` on, h rows each
abbrev pub frames_from : (h stage frame count : ℕ) → List Thing
frames_from h stage frame zero = []
frames_from h stage frame (suc count) = rows_from stage frame 0 h ++ frames_from h stage (frame + 1) count

-- the lines of `count` stages from `stage` on, N frames each
abbrev pub stages_from : (h N stage count : ℕ) → List Thing
stages_from h N stage zero = []
stages_from h N stage (suc count) = frames_from h stage 0 N ++ stages_from h N (stage + 1) count

-- the start writes, the lines of stages 1 to 4, the stop writes, and the end
abbrev pub things_of_run : (file : List ℕ) → List Thing
things_of_run file =
    writes_of (start_steps file)
    ++ (stages_from (rows_in file) (run_frames file) 1 4
    ++ (writes_of (stop_steps file)
    ++ (the_end ∷ [])))

-- ---- the same, from a place of a run on

abbrev pub things_from : (file : List ℕ) → Position → List Thing
things_from file (Start k) =
    writes_of (drop k (start_steps file))
    ++ (stages_from (rows_in file) (run_frames file) 1 4
    ++ (writes_of (stop_steps file)
    ++ (the_end ∷ [])))
things_from file (Line stage frame row) =
    rows_from stage frame row (rows_in file - row)
    ++ (frames_from (rows_in file) stage (frame + 1) (run_frames file - (frame + 1))
    ++ (stages_from (rows_in file) (run_frames file) (stage + 1) (4 - stage)
    ++ (writes_of (stop_steps file)
    ++ (the_end ∷ []))))
things_from file (Stop k) = writes_of (drop k (stop_steps file)) ++ (the_end ∷ [])

-- with no run under way nothing is to come
abbrev pub things_in : (file : List ℕ) → Phase → List Thing
things_in file Idle = []
things_in file Abandoned = []
things_in file (Running run) = things_from file run.next

-- ---- polls

-- a thing's bytes, for a run that shows a slot of the memory, and the answer that hands it out
abbrev pub thing_bytes : (file memory : List ℕ) (slot : ℕ) → Thing → List ℕ
thing_bytes file memory slot (a_write step) = step_bytes step
thing_bytes file memory slot (a_line stage frame row) = line_bytes file memory slot stage row
thing_bytes file memory slot the_end = []

abbrev pub thing_answer : (file memory : List ℕ) (slot : ℕ) → Thing → Answer
thing_answer file memory slot (a_write step) = answer.Write (length (step_bytes step))
thing_answer file memory slot (a_line stage frame row) = answer.Line (length (line_bytes file memory slot stage row))
thing_answer file memory slot the_end = answer.Done

-- the first of the things to come goes out, and the others are still to come
pub record HandsFirst (file memory out : List ℕ) (slot : ℕ) (to_come : List Thing) (given : Answer) (phase : Phase) (out' : List ℕ) : Type 0 where
  pub thing : Thing
  pub first : to_come ≡ thing ∷ things_in file phase
  pub answers : given ≡ thing_answer file memory slot thing
  pub puts : out' ≡ overlay (thing_bytes file memory slot thing) out

-- a refusal and a wait answer leave all that is to come
abbrev pub InOrder : (file memory out : List ℕ) (slot : ℕ) (to_come : List Thing) → Outcome → Type 0
InOrder file memory out slot to_come (outcome (answer.Refused number) phase memory' out') = things_in file phase ≡ to_come
InOrder file memory out slot to_come (outcome (answer.Wait ms) phase memory' out') = things_in file phase ≡ to_come
InOrder file memory out slot to_come (outcome (answer.Write n) phase memory' out') =
    HandsFirst file memory out slot to_come (answer.Write n) phase out'
InOrder file memory out slot to_come (outcome (answer.Line n) phase memory' out') =
    HandsFirst file memory out slot to_come (answer.Line n) phase out'
InOrder file memory out slot to_come (outcome answer.Done phase memory' out') =
    HandsFirst file memory out slot to_come answer.Done phase out'
