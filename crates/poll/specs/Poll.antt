-- Document 01, "The run and its time": a poll of a run under way.
-- Assumes nothing.
use Rattle.std.specs.Prelude.{ℕ, ◌-◌, cond, List, [], ◌∷◌, ltb, length}
use Rattle.lists.specs.Rules.{Case, case, first_of}
use Rattle.run.specs.Clock.{passed_at, clock_refused}
use Rattle.run.specs.Due.{due_of}
use Rattle.run.specs.Runs.{waited}
use Rattle.run.specs.declared.Tick.{Tick}
use Rattle.run.specs.declared.Passed.{Passed}
use Rattle.run.specs.declared.Run.{Run}
use Rattle.poll.specs.HandOut.{Outcome, outcome, hand_out}
use Rattle.poll.specs.declared.Answer.TheVariants.{Refused, Wait}
use Rattle.run.specs.declared.Phase.TheVariants.{Running}

-- at a moment: the ms still to go until the next thing is due, or that thing
unfoldable pub poll_at : (file : List ℕ) (run : Run) (tick : Tick) (moment : Passed) (memory out : List ℕ) → Outcome
poll_at file run tick moment memory out =
    cond (ltb moment.0 (due_of file run))
    (outcome (Wait (due_of file run - moment.0)) (Running (waited run tick moment)) memory out)
    (hand_out file run tick moment memory out run.next)

-- 11: an output shorter than 117; 10: the clock
abbrev pub poll_cases : (run : Run) (tick : Tick) (out_length : ℕ) → List Case
poll_cases run tick out_length =
    case (ltb out_length 117) 11 ∷ case (clock_refused run.passed run.last tick) 10 ∷ []

unfoldable pub poll_run : (file : List ℕ) (run : Run) (tick : Tick) (memory out : List ℕ) → Outcome
poll_run file run tick memory out =
    first_of (poll_cases run tick (length out))
    (λ number. outcome (Refused number) (Running run) memory out)
    (poll_at file run tick (record { 0 = passed_at run.passed run.last tick }) memory out)
