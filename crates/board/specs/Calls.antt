-- Document 01, "Store and bitmaps", "The run and its time" and "Numbers given back", and the requests 2026-02, "Bitmaps over a slow
-- cable", and 2026-05, "A summary beside each slot": what each call does, on any input. A refusal is its number and the state as given, and
-- every lent byte stays; but 4 of a fill ends the fill. The cases of a call are its refusals in order: 13 and 1, then its own
-- (crate store, specs/Refusals.antt).
-- Assumes nothing.
use Rattle.std.specs.Prelude.{ℕ, Bool, true, cond, List, ◌++◌, length, get_or, set, replicate}
use Rattle.lists.specs.Rules.{Case, first_of}
use Rattle.panel.specs.Panels.{Sizes}
use Rattle.picture.specs.Regions.{region_cases}
use Rattle.fill.specs.Fills.{begun_fill}
use Rattle.fill_calls.specs.Calls.{feeding, finishing, cancelling}
use Rattle.fill_calls.specs.declared.Fed.{Fed}
use Rattle.summary.specs.Summaries.{empty_summary}
use Rattle.summary.specs.declared.Summary.{Summary}
use Rattle.run.specs.Runs.{begun}
use Rattle.run.specs.declared.Tick.{Tick}
use Rattle.poll.specs.Answers.{answer_number, answer_ms, put_out}
use Rattle.poll.specs.HandOut.{Outcome, outcome}
use Rattle.poll.specs.Poll.{poll_run}
use Rattle.poll.specs.declared.Answer.{Answer}
use Rattle.poll.specs.declared.Answer.TheVariants as answer
use Rattle.run.specs.declared.Phase.{Phase}
use Rattle.run.specs.declared.Phase.TheVariants.{Idle, Abandoned, Running}
use Rattle.slots.specs.Slots.{bitmap_cases, region_drawn, bitmap_drawn, bitmap_written, on_slot, chunk_writes, finish_writes, counted_in}
use Rattle.board.specs.State.{file_of, sizes_of, with_phase, with_fill, with_summaries, state_cases, store_cases, empty_state, opened_state}
use Rattle.board.specs.declared.State.{State}
use Rattle.board.specs.declared.Reply.{Reply}
use Rattle.board.specs.declared.Summarised.{Summarised}
use Rattle.store.specs.Refusals.{open_cases, upload_own, begin_own, fill_own, start_own, abandon_own, write_own, summary_own}

abbrev pub reply : (number : ℕ) → State → Reply
reply number state = record { number = number; state = state }

-- ---- opening: 2, 1; else all slots white

unfoldable pub opening : (file : List ℕ) (n : ℕ) (memory : List ℕ) → Reply × List ℕ
opening file n memory =
    first_of (open_cases file n (length memory))
    (λ number. (reply number empty_state, memory))
    (reply 0 (opened_state file n), replicate (length memory) 0xFF)

-- ---- a fresh count of a slot, left at its place

abbrev pub counted : (shape : Sizes) → State → (memory : List ℕ) (slot : ℕ) → State
counted shape state memory slot = with_summaries state (counted_in shape memory slot state.store.summaries)

-- ---- uploads: 13, 1, 3, 7, 15, then 5, 6, or 4; else a fresh count of the slot

abbrev pub upload_cases : (state : State) (memory_length slot : ℕ) → List Case
upload_cases state memory_length slot = store_cases state memory_length ++ upload_own state.store slot

-- a picture was drawn into a slot, and the memory is this afterwards
abbrev pub drawn_to : State → (slot : ℕ) (after : List ℕ) → Reply × List ℕ
drawn_to state slot after = (reply 0 (counted (sizes_of state) state after slot), after)

unfoldable pub region_upload : (state : State) (memory : List ℕ) (slot x y width height : ℕ) (payload : List ℕ) → Reply × List ℕ
region_upload state memory slot x y width height payload =
    first_of
    (upload_cases state (length memory) slot
    ++ region_cases (sizes_of state).bytes (sizes_of state).rows x y width height payload)
    (λ number. (reply number state, memory))
    (drawn_to state slot (region_drawn (sizes_of state) memory slot x y width height payload))

unfoldable pub bitmap_upload : (state : State) (memory : List ℕ) (slot : ℕ) (file : List ℕ) → Reply × List ℕ
bitmap_upload state memory slot file =
    first_of (upload_cases state (length memory) slot ++ bitmap_cases (sizes_of state) file)
    (λ number. (reply number state, memory))
    (drawn_to state slot (bitmap_drawn (sizes_of state) memory slot file))

-- ---- fills: begin 13, 1, 3, 7, 15, 16; feed, finish and cancel 13, 1, 17, and the first two then 4

abbrev pub begin_cases : (state : State) (memory_length slot : ℕ) → List Case
begin_cases state memory_length slot = store_cases state memory_length ++ begin_own state.store slot

-- no byte of the memory changes
unfoldable pub fill_begin : (state : State) (memory_length slot : ℕ) → Reply
fill_begin state memory_length slot =
    first_of (begin_cases state memory_length slot) (λ number. reply number state) (reply 0 (with_fill state (begun_fill slot)))

abbrev pub fill_cases : (state : State) (memory_length : ℕ) → List Case
fill_cases state memory_length = store_cases state memory_length ++ fill_own state.store

-- the reply to it: its number, and the state with the fill that it leaves; and where the slot was written, with a fresh count of it
abbrev pub fed_reply : (shape : Sizes) → State → (wrote : Bool) (memory : List ℕ) → Fed → Reply
fed_reply shape state wrote memory fed =
    reply fed.number
    (with_summaries (with_fill state fed.fill)
    (cond wrote (counted_in shape memory state.store.fill.slot state.store.summaries) state.store.summaries))

-- something done to the slot being filled, where there is one; `writes` says by what it gives back whether the slot was written
abbrev pub on_fill : (state : State) (memory : List ℕ) (act : List ℕ → Fed × List ℕ) (writes : Fed → Bool) → Reply × List ℕ
on_fill state memory act writes =
    first_of (fill_cases state (length memory))
    (λ number. (reply number state, memory))
    (let r = on_slot (sizes_of state) memory state.store.fill.slot act in
    (fed_reply (sizes_of state) state (writes r.0) r.1 r.0, r.1))

unfoldable pub fill_feed : (state : State) (memory chunk : List ℕ) → Reply × List ℕ
fill_feed state memory chunk =
    on_fill state memory (feeding (sizes_of state).bytes (sizes_of state).rows (sizes_of state).stride state.store.fill chunk)
    (chunk_writes (sizes_of state).stride state.store.fill)

unfoldable pub fill_finish : (state : State) (memory : List ℕ) → Reply × List ℕ
fill_finish state memory =
    on_fill state memory (finishing (sizes_of state).bytes (sizes_of state).rows (sizes_of state).stride state.store.fill) finish_writes

unfoldable pub fill_cancel : (state : State) (memory : List ℕ) → Reply × List ℕ
fill_cancel state memory = on_fill state memory (λ raw. cancelling (sizes_of state).bytes (sizes_of state).rows) (λ fed. true)

-- ---- start: 13, 1, 8, 12, 3, 15

abbrev pub start_cases : (state : State) (memory_length slot : ℕ) → List Case
start_cases state memory_length slot = store_cases state memory_length ++ start_own state.store slot

unfoldable pub starting : (state : State) (memory_length slot : ℕ) (tick : Tick) → Reply
starting state memory_length slot tick =
    first_of (start_cases state memory_length slot)
    (λ number. reply number state)
    (reply 0 (with_phase state (Running (begun slot tick))))

-- ---- abandon: 13, 1, 9

abbrev pub abandon_cases : (state : State) (memory_length : ℕ) → List Case
abandon_cases state memory_length = store_cases state memory_length ++ abandon_own state.store

unfoldable pub abandoning : (state : State) (memory_length : ℕ) → Reply
abandoning state memory_length =
    first_of (abandon_cases state memory_length)
    (λ number. reply number state)
    (reply 0 (with_phase state Abandoned))

-- ---- poll: 13, 1, 9, then 11, 10 of the run

-- what a poll gives back and leaves: its answer, with the number, the ms still to go and the bytes put out that the answer stands for;
-- the state, the memory and the output
pub record Polling : Type 0 where
  pub answer : Answer
  pub number : ℕ
  pub ms : ℕ
  pub put : List ℕ
  pub state : State
  pub memory : List ℕ
  pub out : List ℕ

abbrev pub polling : (answer : Answer) (state : State) (memory out : List ℕ) → Polling
polling answer state memory out =
    record {
      answer = answer;
      number = answer_number answer;
      ms = answer_ms answer;
      put = put_out answer out;
      state = state;
      memory = memory;
      out = out;
    }

-- done copies the summary of the slot that the run shows to that of slot 0
abbrev pub summaries_after : Answer → (slot : ℕ) → List Summary → List Summary
summaries_after (answer.Refused number) slot summaries = summaries
summaries_after (answer.Write n) slot summaries = summaries
summaries_after (answer.Line n) slot summaries = summaries
summaries_after (answer.Wait ms) slot summaries = summaries
summaries_after answer.Done slot summaries = set summaries 0 (get_or summaries slot empty_summary)

abbrev pub in_state : State → (slot : ℕ) → Outcome → Polling
in_state state slot (outcome answer phase memory out) =
    polling answer (with_summaries (with_phase state phase) (summaries_after answer slot state.store.summaries)) memory out

abbrev pub poll_phase : (state : State) (tick : Tick) (memory out : List ℕ) → Phase → Polling
poll_phase state tick memory out Idle = polling (answer.Refused 9) state memory out
poll_phase state tick memory out Abandoned = polling (answer.Refused 9) state memory out
poll_phase state tick memory out (Running run) = in_state state run.slot (poll_run (file_of state) run tick memory out)

unfoldable pub polled : (state : State) (tick : Tick) (memory out : List ℕ) → Polling
polled state tick memory out =
    first_of (store_cases state (length memory))
    (λ number. polling (answer.Refused number) state memory out)
    (poll_phase state tick memory out state.store.phase)

-- ---- the writer: 13, 1, 3, 11

abbrev pub write_cases : (state : State) (memory_length slot out_length : ℕ) → List Case
write_cases state memory_length slot out_length = store_cases state memory_length ++ write_own state.store (sizes_of state) slot out_length

unfoldable pub bitmap_write : (state : State) (memory : List ℕ) (slot : ℕ) (out : List ℕ) → Reply × List ℕ
bitmap_write state memory slot out =
    first_of (write_cases state (length memory) slot (length out))
    (λ number. (reply number state, out))
    (reply 0 state, bitmap_written (sizes_of state) memory slot out)

-- ---- the summary of a slot, slot 0 too: 13, 3

abbrev pub summary_cases : (state : State) (slot : ℕ) → List Case
summary_cases state slot = state_cases state ++ summary_own state.store slot

abbrev pub summarised : (number : ℕ) → Summary → State → Summarised
summarised number summary state = record { number = number; summary = summary; state = state }

-- a refused call gives the empty summary
unfoldable pub slot_summary : (state : State) (slot : ℕ) → Summarised
slot_summary state slot =
    first_of (summary_cases state slot)
    (λ number. summarised number empty_summary state)
    (summarised 0 (get_or state.store.summaries slot empty_summary) state)
