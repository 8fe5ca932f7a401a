-- Document 01, "The run and its time": tick readings, which wrap, and passed time, which does not.
-- Assumes nothing.
use Rattle.std.specs.Prelude.{ℕ, ◌+◌, ◌-◌, ◌%◌, ◌^◌, Bool, Option, Some, None, cond, ◌||◌, nat_le}
use Rattle.run.specs.declared.Tick.{Tick}
use Rattle.run.specs.declared.Passed.{Passed}

-- a poll's step: its reading minus the last accepted one, modulo 2^32
unfoldable pub step_from : (last tick : Tick) → ℕ
step_from last tick = (tick.0 + (2 ^ 32 - last.0)) % 2 ^ 32

-- passed time after a step
abbrev pub passed_at : (passed : Passed) (last tick : Tick) → ℕ
passed_at passed last tick = passed.0 + step_from last tick

-- 10: a step of 2^31 or more means that the clock went back; or passed time would go beyond 2^64 - 1
unfoldable pub clock_refused : (passed : Passed) (last tick : Tick) → Bool
clock_refused passed last tick = nat_le (2 ^ 31) (step_from last tick) || nat_le (2 ^ 64) (passed_at passed last tick)

-- what a tick reading says: passed time, if it is accepted
unfoldable pub reading_of : (passed : Passed) (last tick : Tick) → Option Passed
reading_of passed last tick = cond (clock_refused passed last tick) None (Some (record { 0 = passed_at passed last tick }))
