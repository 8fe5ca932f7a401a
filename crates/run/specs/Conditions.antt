-- The conditions that a run under way keeps; docs/STATE.md says them in words. They describe the runs that calls can leave, so that
-- a made-up run cannot make a poll hand anything out before it is due.
-- Assumes nothing.
use Rattle.std.specs.Prelude.{ℕ, ◌+◌, ◌-◌, ◌*◌, Bool, true, false, cond, not, ◌||◌, List, [], ◌∷◌, ◌==◌, nat_le, nat_lt, slice_index_or}
use Rattle.lists.specs.Rules.{every}
use Rattle.panel.specs.Panels.{rows_of}
use Rattle.settings.specs.Settings.{Step, write, wait, malformed, panel_of, start_count, start_steps, stop_count, stop_steps}
use Rattle.run.specs.Place.{frame_number}
use Rattle.run.specs.Due.{run_frames, frame_due}
use Rattle.run.specs.declared.Position.{Position}
use Rattle.run.specs.declared.Position.TheVariants.{Start, Line, Stop}
use Rattle.run.specs.declared.Run.{Run}

abbrev pub is_write : Step → Bool
is_write (write register bytes) = true
is_write (wait ms) = false
is_write malformed = false

-- a place among steps is the first one, or stands right after a write
abbrev pub after_write : (steps : List Step) (k : ℕ) → Bool
after_write steps k = k == 0 || is_write (slice_index_or steps (k - 1) malformed)

-- before the first line: nothing was handed out yet at the first step, and F is not known
abbrev pub start_place_rules : (file : List ℕ) (run : Run) (k : ℕ) → List Bool
start_place_rules file run k =
    nat_le k (start_count file)
    ∷ after_write (start_steps file) k
    ∷ (not (k == 0) || run.handed.0 == 0)
    ∷ (run.first.0 == 0)
    ∷ []

-- among the lines, and past the very first one: the line before this one went out no earlier than its frame was due
abbrev pub line_place_rules : (file : List ℕ) (run : Run) (stage frame row : ℕ) → List Bool
line_place_rules file run stage frame row =
    nat_le 1 stage
    ∷ nat_le stage 4
    ∷ nat_lt frame (run_frames file)
    ∷ nat_lt row (rows_of (panel_of file))
    ∷ nat_lt 0 (frame_number (run_frames file) stage frame + row)
    ∷ nat_le (frame_due run.first.0 (frame_number (run_frames file) stage frame - cond (row == 0) 1 0)) run.handed.0
    ∷ []

-- after the lines: the last line went out no earlier than its frame was due, and a stop write not before the end of the last frame
abbrev pub stop_place_rules : (file : List ℕ) (run : Run) (k : ℕ) → List Bool
stop_place_rules file run k =
    nat_le k (stop_count file)
    ∷ after_write (stop_steps file) k
    ∷ nat_le (frame_due run.first.0 (4 * run_frames file - cond (k == 0) 1 0)) run.handed.0
    ∷ []

abbrev pub place_valid : (file : List ℕ) (run : Run) → Position → Bool
place_valid file run (Start k) = every (start_place_rules file run k)
place_valid file run (Line stage frame row) = every (line_place_rules file run stage frame row)
place_valid file run (Stop k) = every (stop_place_rules file run k)

-- its slot is one of 1 to n, what was handed out was so by now, and its place is valid
abbrev pub run_rules : (file : List ℕ) (n : ℕ) (run : Run) → List Bool
run_rules file n run =
    nat_le 1 run.slot ∷ nat_le run.slot n ∷ nat_le run.handed.0 run.passed.0 ∷ place_valid file run run.next ∷ []

unfoldable pub run_valid : (file : List ℕ) (n : ℕ) (run : Run) → Bool
run_valid file n run = every (run_rules file n run)
