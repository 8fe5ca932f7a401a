-- Document 01, "Sums checked by hand": its times, with the example file and F at the reading 4294967290, through what is read from
-- outside; and a short history of the driver itself.
-- Assumes nothing.
use mathlib.Core.Path.{◌≡◌, refl}
use mathlib.Core.List.{List, [], ◌∷◌}
use Prim.Native.Nat.{ℕ, ◌-◌}
use lib.ListN.{replicate}
use Rattle.panel.specs.Registers.{data_length, channel_data, gate_source_level}
use Rattle.settings.specs.Settings.{required_data, write_of, wait_of, step_of, settings_good}
use Rattle.settings.proofs.Examples.{example}
use Rattle.run.specs.Clock.{step_from, clock_refused}
use Rattle.run.specs.Place.{next_position}
use Rattle.run.specs.Due.{due_of}
use Rattle.bitmap_prefix.specs.Begins.{header_begins}
use Rattle.fill.specs.Conditions.{fill_valid}
use Rattle.summary.specs.Conditions.{summary_good, summaries_good}
use Rattle.run.specs.Conditions.{run_valid}
use Rattle.run.specs.declared.Position.{Position}
use Rattle.run.specs.declared.Position.TheVariants.{Line, Stop}
use Rattle.poll.specs.Poll.{poll_at, poll_run}
use Rattle.board.specs.Calls.{starting, polled}
use Rattle.board.specs.History.{Call, start, poll, Event, events_of}
use Rattle.theorems.specs.Timing.{known, due_from, Watch, Observed, no_run, a_run, watch_at_start, now_at, due_next, observed_after}
use Rattle.theorems.specs.Past.{items_from}
use Rattle.theorems.proofs.Worked.{small, small_memory, tick_at}
use Rattle.store.specs.Conditions.{keeps_rules}

-- all up to a place was handed out, the last of it at a moment that has this reading, F being 0
abbrev watched_at : (reading moment : ℕ) → Position → Watch
watched_at reading moment position =
    record { last = tick_at reading; passed = moment; handed = moment; first = known 0; to_come = items_from example position }

-- ---- a history: the start at 4294967285, and polls

abbrev poll_at_tick : ℕ → Call
poll_at_tick n = poll (tick_at n) (replicate 117 0)

abbrev observed_all : Observed → List Event → Observed
observed_all observed [] = observed
observed_all observed (e ∷ es) = observed_all (observed_after example observed e) es

abbrev watch_in : Observed → Watch
watch_in no_run = watch_at_start example (tick_at 0)
watch_in (a_run slot watch) = watch

abbrev watched : List Call → Watch
watched calls = watch_in (observed_all no_run (events_of small small_memory (start 1 (tick_at 4294967285) ∷ calls)))

-- two writes at 4294967285 and 4294967287, the first line at 4294967290, one more line at 10
abbrev four_polls : Watch
four_polls = watched (poll_at_tick 4294967285 ∷ poll_at_tick 4294967287 ∷ poll_at_tick 4294967290 ∷ poll_at_tick 10 ∷ [])

pub record WorkedTimes : Type 0 where
  -- with frame 0 out by F, a poll at 10 is told 14
  pub wait_14 : due_next 0 (watched_at 4294967290 0 (Line 1 1 0)) - now_at (watched_at 4294967290 0 (Line 1 1 0)) (tick_at 10) ≡ 14
  -- with frame 0's last line at 40, which is F + 46, frame 1 may go at once, and frame 2 from 54, which is F + 60
  pub at_once : due_next 0 (watched_at 40 46 (Line 1 1 0)) ≡ 46
  pub not_70 : due_next 0 (watched_at 40 46 (Line 1 2 0)) ≡ now_at (watched_at 4294967290 0 (Line 1 1 0)) (tick_at 54)
  -- with the last line out by F + 1,920 done is due at F + 1,935; at F + 2,000, at F + 2,015
  pub done_1935 : due_from 0 (known 0) 1900 (items_from example (Stop 0)) ≡ 1935
  pub done_2015 : due_from 0 (known 0) 2000 (items_from example (Stop 0)) ≡ 2015
  -- F, passed time and the moment of the last thing, as read from a history
  pub first_line_lem : four_polls.first ≡ known 5
  pub passed_time : four_polls.passed ≡ 21
  pub last_handed : four_polls.handed ≡ 21
  pub next_due : due_next 0 four_polls ≡ 21

pub worked_times : WorkedTimes
unfolding keeps_rules settings_good step_of write_of wait_of required_data data_length channel_data gate_source_level step_from clock_refused polled poll_run poll_at due_of run_valid fill_valid header_begins summaries_good summary_good starting next_position
worked_times =
    record {
      wait_14 = refl;
      at_once = refl;
      not_70 = refl;
      done_1935 = refl;
      done_2015 = refl;
      first_line_lem = refl;
      passed_time = refl;
      last_handed = refl;
      next_due = refl;
    }
