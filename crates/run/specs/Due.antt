-- Document 01, "The run and its time": the moment, in passed time, from which the next thing may be handed out. A moment at or
-- before the present means: at once.
-- Assumes nothing.
use Rattle.std.specs.Prelude.{ℕ, ◌+◌, ◌*◌, max, cond, List, drop, ◌==◌}
use Rattle.settings.specs.Settings.{start_steps, stop_steps, panel_of}
use Rattle.settings.specs.Steps.{waits_before}
use Rattle.panel.specs.Panels.{frames_of}
use Rattle.run.specs.Place.{frame_number}
use Rattle.run.specs.declared.Position.{Position}
use Rattle.run.specs.declared.Position.TheVariants.{Start, Line, Stop}
use Rattle.run.specs.declared.Run.{Run}

-- N, the frames per stage of a run with this settings file
abbrev pub run_frames : (file : List ℕ) → ℕ
run_frames file = frames_of (panel_of file)

-- frame i may begin from F + 30i; the end of the last frame is that of frame 4N
abbrev pub frame_due : (first i : ℕ) → ℕ
frame_due first i = first + 30 * i

-- waits count from the call that handed out the thing before them; right after the last frame they count from its end or from the
-- call that handed out the last line, whichever is later; a later line of a frame may go at once
abbrev pub due_at : (file : List ℕ) (run : Run) → Position → ℕ
due_at file run (Start k) = run.handed.0 + waits_before (drop k (start_steps file))
due_at file run (Line stage frame row) =
    cond (row == 0) (frame_due run.first.0 (frame_number (run_frames file) stage frame)) run.handed.0
due_at file run (Stop k) =
    max (frame_due run.first.0 (4 * run_frames file)) run.handed.0 + waits_before (drop k (stop_steps file))

unfoldable pub due_of : (file : List ℕ) (run : Run) → ℕ
due_of file run = due_at file run run.next
