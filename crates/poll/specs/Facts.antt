-- What the functions below a poll may assume, and what they tell.
-- Assumes nothing.
use Rattle.std.specs.Prelude.{ℕ, ◌≤◌, ◌<◌, ◌≡◌, true, List, length}
use Rattle.lists.specs.Lists.{overlay}
use Rattle.settings.specs.Settings.{settings_good, row_bytes_in, rows_in}
use Rattle.picture.specs.Facts.{SlotIn}
use Rattle.run.specs.Due.{run_frames}
use Rattle.run.specs.declared.Run.{Run}

-- bytes were put at the front of an output, which then is `after`; `count` is how many
pub record Sent (bytes out : List ℕ) (count : ℕ) (after : List ℕ) : Type 0 where
  pub many : count ≡ length bytes
  pub whole : after ≡ overlay bytes out

-- a row of a frame of a stage, on the panel of an accepted file
pub record LineIn (file : List ℕ) (stage frame row : ℕ) : Type 0 where
  pub good : settings_good file ≡ true
  pub low : 1 ≤ stage
  pub high : stage ≤ 4
  pub frames : frame < run_frames file
  pub rows : row < rows_in file

-- the run's slot lies in the memory, and is not slot 0
pub record Room (file : List ℕ) (run : Run) (memory : List ℕ) : Type 0 where
  pub low : 1 ≤ run.slot
  pub slot_in : SlotIn (row_bytes_in file) (rows_in file) (length memory) run.slot
