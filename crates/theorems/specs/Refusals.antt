-- Document 01, "Numbers given back", and requests 2026-02 and 2026-05: what a refused call leaves, and what a call that ends a fill before its time.
-- Assumes nothing.
use Rattle.std.specs.Prelude.{◌≡◌, Bool, false, List, ℕ, eqb, set}
use Rattle.picture.specs.Slots.{with_bytes}
use Rattle.fill.specs.Fills.{empty_fill}
use Rattle.fill_calls.specs.Calls.{white_slot}
use Rattle.summary.specs.Summaries.{empty_summary}
use Rattle.board.specs.State.{sizes_of, with_fill, with_summaries}
use Rattle.board.specs.History.{Call, upload_region, upload_bitmap, begin_fill, feed_fill, finish_fill, cancel_fill, start, poll, abandon, write_bitmap, summary, out_of, Called}
use Rattle.board.specs.declared.State.{State}

-- the state, the memory and the output are as they were
pub record Unchanged (state : State) (memory : List ℕ) (call : Call) (called : Called) : Type 0 where
  pub state_same : called.state ≡ state
  pub memory_same : called.memory ≡ memory
  pub out_same : called.out ≡ out_of call

-- 4 of a chunk or of finish, and an accepted cancel, end a fill before its time
abbrev pub breaks_fill : Call → (number : ℕ) → Bool
breaks_fill (upload_region slot x y width height payload) number = false
breaks_fill (upload_bitmap slot file) number = false
breaks_fill (begin_fill slot) number = false
breaks_fill (feed_fill chunk) number = eqb number 4
breaks_fill finish_fill number = eqb number 4
breaks_fill cancel_fill number = eqb number 0
breaks_fill (start slot tick) number = false
breaks_fill (poll tick out) number = false
breaks_fill abandon number = false
breaks_fill (write_bitmap slot out) number = false
breaks_fill (summary slot) number = false

-- then none is begun, its slot is all white and its summary empty, and everything else is as it was
pub record FillBroken (state : State) (memory : List ℕ) (call : Call) (called : Called) : Type 0 where
  pub state-is : called.state
      ≡ with_summaries (with_fill state empty_fill) (set state.store.summaries state.store.fill.slot empty_summary)
  pub memory-is : called.memory
      ≡ with_bytes (sizes_of state).bytes (sizes_of state).rows memory state.store.fill.slot
      (white_slot (sizes_of state).bytes (sizes_of state).rows)
  pub out_same : called.out ≡ out_of call
