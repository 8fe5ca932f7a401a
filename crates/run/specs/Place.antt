-- Document 01, "The run and its time": where a run stands, on a panel of h rows with N frames a stage.
-- Assumes nothing.
use Rattle.std.specs.Prelude.{ℕ, ◌+◌, ◌-◌, ◌*◌, cond, nat_lt}
use Rattle.run.specs.declared.Position.{Position}
use Rattle.run.specs.declared.Position.TheVariants.{Line, Stop}

-- frame i of 4N, counted from 0 over the whole run, by its stage (1 to 4) and its frame of that stage (from 0)
abbrev pub frame_number : (N stage frame : ℕ) → ℕ
frame_number N stage frame = (stage - 1) * N + frame

-- what comes after the line of a row: the next row, else the next frame, else the next stage, else the stop steps
unfoldable pub next_position : (h N stage frame row : ℕ) → Position
next_position h N stage frame row =
    cond (nat_lt (row + 1) h) (Line stage frame (row + 1))
    (cond (nat_lt (frame + 1) N) (Line stage (frame + 1) 0)
    (cond (nat_lt stage 4) (Line (stage + 1) 0 0)
    (Stop 0)))
