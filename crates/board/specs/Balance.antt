-- Demand 3, over a literal list of calls. Count a push to white +1 and a push to black -1 over every line that polls handed out
-- since the opening. For every list of calls on the store, in any order, refused ones included, whatever the clock reads: each dot's
-- sum lies between -N and 0; with no run under way or abandoned it is 0 where the shown picture is white and -N where it is black.
-- Used here: `call_on`, `events_of`, `handed_out`, `Seen` (History.antt); `opening` (Calls.antt); `sum_of`, `Within`, `rest_sum_lem`
-- (crate balance, specs/Sums.antt); `dot` (crate panel, specs/Dots.antt).
-- Assumes nothing.
use Rattle.std.specs.Prelude.{ℕ, ◌*◌, ◌<◌, ◌≡◌, List, replicate}
use Rattle.panel.specs.Dots.{dot}
use Rattle.settings.specs.Settings.{row_bytes_in, rows_in}
use Rattle.picture.specs.Slots.{slot_picture}
use Rattle.balance.specs.Sums.{sum_of, Within, rest_sum}
use Rattle.run.specs.Due.{run_frames}
use Rattle.board.specs.Calls.{opening}
use Rattle.board.specs.History.{Call, Event, events_of, memory_after, handed_out, at_rest, Seen, seen_after}

-- what is seen right after an opening: no run, and all dots white
abbrev pub seen_at_opening : (b h : ℕ) → Seen
seen_at_opening b h = record { standing = at_rest; shown = replicate (h * b) 0xFF }

-- the demand, of what was seen since an opening and the memory as it is now, on a panel of b row bytes and h rows with N frames a stage
pub record Balanced (b h N : ℕ) (events : List Event) (memory : List ℕ) : Type 0 where
  -- each dot's sum lies between -N and 0
  pub within : (x y : ℕ) → x < 8 * b → y < h → Within N (sum_of b h x y (handed_out events))
  -- with no run under way or abandoned it is 0 where the shown picture is white and -N where it is black
  pub resting : (seen_after b h (seen_at_opening b h) events).standing ≡ at_rest
      → (x y : ℕ) → x < 8 * b → y < h
      → sum_of b h x y (handed_out events) ≡ rest_sum N (dot b (seen_after b h (seen_at_opening b h) events).shown x y)
  -- the shown picture is what slot 0 holds
  pub shown : slot_picture b h memory 0 ≡ (seen_after b h (seen_at_opening b h) events).shown

-- over every list of calls since an accepted opening
abbrev pub Demand3 : Type 0
Demand3 =
    (file : List ℕ) (n : ℕ) (lent : List ℕ) → (opening file n lent).0.number ≡ 0
    → (calls : List Call)
    → Balanced (row_bytes_in file) (rows_in file) (run_frames file)
    (events_of (opening file n lent).0.state (opening file n lent).1 calls)
    (memory_after (opening file n lent).0.state (opening file n lent).1 calls)
