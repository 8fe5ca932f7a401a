-- What a run hands out, by cases: a write, a line, or done.
-- Assumes nothing.
use mathlib.Core.Path.{◌≡◌, refl}
use mathlib.Core.Bool.{true}
use mathlib.Core.List.{List, [], ◌∷◌}
use Prim.Native.Nat.{ℕ, ◌-◌}
use lib.ListN.{length, drop}
use Rattle.settings.specs.Settings.{Step, start_count, start_steps, stop_count, stop_steps}
use Rattle.settings.specs.Steps.{from_write}
use Rattle.run.specs.declared.Tick.{Tick}
use Rattle.run.specs.declared.Passed.{Passed}
use Rattle.run.specs.declared.Position.{Position}
use Rattle.run.specs.declared.Position.TheVariants.{Start, Line, Stop}
use Rattle.run.specs.declared.Run.{Run}
use Rattle.run.specs.declared.Phase.{Phase}
use Rattle.run.specs.declared.Phase.TheVariants.{Idle}
use Rattle.poll.specs.HandOut.{Outcome, outcome, shown_after, send_write, send_line, hand_start, hand_stop, hand_out}
use Rattle.poll.specs.declared.Answer.TheVariants.{Done}
use Rattle.theorems.specs.Progress.{is_hand_out, answer_in}

-- the phase that a poll leaves
abbrev pub phase_in : Outcome → Phase
phase_in (outcome answer phase memory out) = phase

module _ (file : List ℕ) (run : Run) (tick : Tick) (moment : Passed) (memory out : List ℕ) where
  pub by_handed : (P : Outcome → Type 0) → ((step : Step) (next : Position) → P (send_write file run tick moment memory out step next))
      → ((first : Passed) (stage frame row : ℕ) → P (send_line file run tick moment memory out first stage frame row))
      → P (outcome Done Idle (shown_after file memory run.slot) out)
      → (position : Position) → P (hand_out file run tick moment memory out position)
  by_handed P if_write if_line if_done (Start k) = of_start (from_write (drop k (start_steps file)))
    where
      of_start : (steps : List Step) → P (hand_start file run tick moment memory out steps)
      of_start [] = if_line moment 1 0 0
      of_start (step ∷ steps) = if_write step (Start (start_count file - length steps))
  by_handed P if_write if_line if_done (Line stage frame row) = if_line run.first stage frame row
  by_handed P if_write if_line if_done (Stop k) = of_stop (from_write (drop k (stop_steps file)))
    where
      of_stop : (steps : List Step) → P (hand_stop file run tick moment memory out steps)
      of_stop [] = if_done
      of_stop (step ∷ steps) = if_write step (Stop (stop_count file - length steps))

  pub hands_some : (position : Position) → is_hand_out (answer_in (hand_out file run tick moment memory out position)) ≡ true
  hands_some = by_handed (λ o. is_hand_out (answer_in o) ≡ true) (λ step next. refl) (λ first stage frame row. refl) refl
