-- The run after each thing that a call can do to it.
-- Assumes nothing.
use Rattle.std.specs.Prelude.{ℕ}
use Rattle.run.specs.declared.Tick.{Tick}
use Rattle.run.specs.declared.Passed.{Passed}
use Rattle.run.specs.declared.Position.{Position}
use Rattle.run.specs.declared.Position.TheVariants.{Start}
use Rattle.run.specs.declared.Run.{Run}

-- a run that has just been started
abbrev pub begun : (slot : ℕ) (tick : Tick) → Run
begun slot tick =
    record {
      slot = slot;
      last = tick;
      passed = record { 0 = 0 };
      handed = record { 0 = 0 };
      first = record { 0 = 0 };
      next = Start 0;
    }

-- after a wait answer: the reading is an accepted one, and no wait begins anew
abbrev pub waited : (run : Run) (tick : Tick) (moment : Passed) → Run
waited run tick moment =
    record {
      slot = run.slot;
      last = tick;
      passed = moment;
      handed = run.handed;
      first = run.first;
      next = run.next;
    }

-- after a write or a line was handed out at a moment
abbrev pub moved : (run : Run) (tick : Tick) (moment first : Passed) (next : Position) → Run
moved run tick moment first next =
    record { slot = run.slot; last = tick; passed = moment; handed = moment; first = first; next = next }
