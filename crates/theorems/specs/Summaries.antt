-- Request 2026-05, "A summary beside each slot", over lists of calls. For every list of calls since an accepted opening, in any order,
-- refused ones included: every summary then equals a fresh count of the picture that its slot holds, slots 0 to n, and it is what the call
-- for a summary gives. Every beginning of a list is such a list, so this holds after each call.
-- Used here: `SummariesFresh`, `summary_of` (crate summary, specs/Summaries.antt), `opening`, `slot_summary` (crate board,
-- specs/Calls.antt), `memory_after` (crate board, specs/History.antt), `state_after` (Progress.antt).
-- Assumes nothing.
use Rattle.std.specs.Prelude.{ℕ, ◌≤◌, ◌≡◌, List}
use Rattle.settings.specs.Settings.{row_bytes_in, rows_in}
use Rattle.picture.specs.Slots.{slot_picture}
use Rattle.summary.specs.Summaries.{summary_of, SummariesFresh}
use Rattle.board.specs.Calls.{opening, summarised, slot_summary}
use Rattle.board.specs.History.{Call, memory_after}
use Rattle.board.specs.declared.State.{State}
use Rattle.theorems.specs.Progress.{state_after}

-- of a store of slots 0 to n on a panel of b row bytes and h rows
pub record Summarises (b h n : ℕ) (state : State) (memory : List ℕ) : Type 0 where
  -- every summary is a fresh count
  pub fresh : SummariesFresh b h memory n state.store.summaries
  -- and that is what the call for it gives
  pub told : (slot : ℕ) → slot ≤ n → slot_summary state slot ≡ summarised 0 (summary_of b h (slot_picture b h memory slot)) state

-- over every list of calls since an accepted opening
abbrev pub SummariesHold : Type 0
SummariesHold =
    (file : List ℕ) (n : ℕ) (lent : List ℕ) → (opening file n lent).0.number ≡ 0
    → (calls : List Call)
    → Summarises (row_bytes_in file) (rows_in file) n
    (state_after (opening file n lent).0.state (opening file n lent).1 calls)
    (memory_after (opening file n lent).0.state (opening file n lent).1 calls)
