-- What a call on the store does, as far as theorems over every list of calls see it. Each call is shown to be one of these effects; what
-- holds of every effect then holds of every call.
-- Assumes nothing.
use mathlib.Core.Path.{◌≡◌, refl, subst}
use mathlib.Core.Bool.{Bool, true, false}
use mathlib.Core.List.{List, [], ◌++◌}
use Prim.Native.Nat.{ℕ, ◌-◌, ◌*◌, ◌≤◌, ◌<◌}
use borrow.Author.Tests.{ltb-true, ltb-false}
use lib.Dec.{eqb, ltb}
use lib.ListN.{length, get_or}
use Rattle.lists.proofs.Rules.{None, by_test, by_cases, none_parts}
use Rattle.panel.specs.Dots.{dot}
use Rattle.panel.specs.Panels.{Sizes}
use Rattle.panel.proofs.Dots.{dot_lt}
use Rattle.panel.proofs.Panels.{size_of}
use Rattle.settings.specs.Settings.{panel_of}
use Rattle.settings.proofs.Accepted.{good-panel}
use Rattle.picture.specs.Slots.{slot_picture, with_picture}
use Rattle.picture.specs.Regions.{payload_row, region_cases, with_region}
use Rattle.picture.proofs.Slots.{rows-overdrawn}
use Rattle.bitmap_codec.proofs.RoundTrip.{length_read}
use Rattle.fill.specs.Fills.{begun_fill}
use Rattle.fill_calls.specs.Calls.{feeding, finishing, cancelling}
use Rattle.fill.specs.declared.Fill.{Fill}
use Rattle.fill_calls.specs.declared.Fed.{Fed}
use Rattle.summary.specs.Summaries.{empty_summary}
use Rattle.summary.specs.declared.Summary.{Summary}
use Rattle.run.specs.Clock.{passed_at}
use Rattle.run.specs.Due.{due_of}
use Rattle.run.specs.Runs.{begun, waited}
use Rattle.run.specs.declared.Tick.{Tick}
use Rattle.run.specs.declared.Passed.{Passed}
use Rattle.run.specs.declared.Run.{Run}
use Rattle.run.specs.declared.Phase.{Phase}
use Rattle.run.specs.declared.Phase.TheVariants.{Idle, Abandoned, Running}
use Rattle.poll.specs.HandOut.{Outcome, outcome, hand_out}
use Rattle.poll.specs.Poll.{poll_at, poll_cases, poll_run}
use Rattle.poll.specs.declared.Answer.TheVariants as answer
use Rattle.slots.specs.Slots.{region_drawn, bitmap_cases, bitmap_drawn, on_slot, chunk_writes, finish_writes, bitmap_written}
use Rattle.store.specs.Refusals.{is_running, is_filling, upload_own, begin_own, fill_own, start_own, abandon_own}
use Rattle.store.proofs.Conditions.{valid-state}
use Rattle.store.proofs.Cases.{Uploadable, uploadable, Fillable, fillable, filling, Startable, startable, running}
use Rattle.board.specs.State.{file_of, sizes_of, with_phase, with_fill, store_cases}
use Rattle.board.specs.Calls.{reply, counted, upload_cases, drawn_to, region_upload, bitmap_upload, begin_cases, fill_begin, fill_cases, fed_reply, on_fill, fill_feed, fill_finish, fill_cancel, start_cases, starting, abandon_cases, abandoning, Polling, polling, in_state, poll_phase, polled, write_cases, bitmap_write, summary_cases, summarised, slot_summary}
use Rattle.board.specs.History.{Call, upload_region, upload_bitmap, begin_fill, feed_fill, finish_fill, cancel_fill, start, poll, abandon, write_bitmap, summary, no_part, part_of, Given, number, answered, summed, is_accepted, event, out_of, Called, of_reply, of_poll, of_summary, call_on}
use Rattle.board.specs.declared.State.{State}
use Rattle.board.specs.declared.Reply.{Reply}
use Rattle.board.specs.declared.Summarised.{Summarised}
use Rattle.board.proofs.Tests.{Tested, tested, Told, told}

-- ---- the effects

-- what a call that gave back this, put nothing out and left these
abbrev pub leaving : (call : Call) (memory : List ℕ) → Given → (state' : State) (memory' out' : List ℕ) → Called
leaving call memory given state' memory' out' =
    record { seen = event call memory given []; state = state'; memory = memory'; out = out' }

-- what each call of a fill does to the bytes of its slot, and how it is known whether it wrote them
pub data Fills (shape : Sizes) (fill : Fill) : Call → (List ℕ → Fed × List ℕ) → (Fed → Bool) → Type 0 where
  feeds : (chunk : List ℕ)
      → Fills shape fill (feed_fill chunk) (feeding shape.bytes shape.rows shape.stride fill chunk) (chunk_writes shape.stride fill)
  finishes : Fills shape fill finish_fill (finishing shape.bytes shape.rows shape.stride fill) finish_writes
  cancels : Fills shape fill cancel_fill (λ raw. cancelling shape.bytes shape.rows) (λ fed. true)

module _ (state : State) (memory : List ℕ) where
  -- what a call left that drew a picture into a slot
  abbrev pub drawn_into : (call : Call) (slot : ℕ) (picture : List ℕ) → Called
  drawn_into call slot picture =
      let after = with_picture (sizes_of state).bytes (sizes_of state).rows memory slot picture in
      leaving call memory (number 0) (counted (sizes_of state) state after slot) after (out_of call)

  -- what a call left that did this to the slot being filled
  abbrev pub filled_to : (call : Call) (act : List ℕ → Fed × List ℕ) (writes : Fed → Bool) → Called
  filled_to call act writes =
      let d = on_slot (sizes_of state) memory state.store.fill.slot act in
      of_reply call memory (fed_reply (sizes_of state) state (writes d.0) d.1 d.0) d.1 []

  -- what a poll of its run left
  abbrev pub polled_to : (run : Run) (tick : Tick) (out : List ℕ) → Outcome → Called
  polled_to run tick out o = of_poll (poll tick out) memory (in_state state run.slot o)

  -- a poll at a moment: its run, which is valid, and its time
  pub record At (tick : Tick) (run : Run) (moment : Passed) : Type 0 where
    pub tests : Tested state (length memory)
    pub runs : state.store.phase ≡ Running run
    pub is : moment ≡ record { 0 = passed_at run.passed run.last tick }

  pub data Effect : Call → Called → Type 0 where
    -- it is refused, and leaves everything
    refuses : (call : Call) (given : Given) → is_accepted given ≡ false → Effect call (leaving call memory given state memory (out_of call))
    -- it writes its output alone
    reads : (call : Call) (out' : List ℕ) → part_of call ≡ no_part → Tested state (length memory)
        → Effect call (leaving call memory (number 0) state memory out')
    -- it tells the summary of a slot
    tells : (slot : ℕ) (held : Summary) → Told state slot → Effect (summary slot) (leaving (summary slot) memory (summed 0 held) state memory [])
    -- it draws a picture into a slot that is neither shown nor the run's
    draws : (call : Call) (slot : ℕ) (picture : List ℕ) → part_of call ≡ no_part → Tested state (length memory)
        → Uploadable state.store slot → length picture ≡ (sizes_of state).rows * (sizes_of state).bytes
        → Effect call (drawn_into call slot picture)
    -- it begins to fill a slot
    begins : (slot : ℕ) → Tested state (length memory) → Fillable state.store slot
        → Effect (begin_fill slot) (leaving (begin_fill slot) memory (number 0) (with_fill state (begun_fill slot)) memory [])
    -- it goes on with the slot being filled, or ends that: the fill and the slot change, and nothing else
    fills : (call : Call) (act : List ℕ → Fed × List ℕ) (writes : Fed → Bool) → Fills (sizes_of state) state.store.fill call act writes
        → Tested state (length memory) → is_filling state.store.fill ≡ true → Effect call (filled_to call act writes)
    -- it starts a run, or abandons it
    starts : (slot : ℕ) (tick : Tick) → Tested state (length memory) → Startable state.store slot
        → Effect (start slot tick) (leaving (start slot tick) memory (number 0) (with_phase state (Running (begun slot tick))) memory [])
    abandons : Tested state (length memory) → is_running state.store.phase ≡ true
        → Effect abandon (leaving abandon memory (number 0) (with_phase state Abandoned) memory [])
    -- it polls the run: before the next thing is due, or from then on
    waits : (tick : Tick) (out : List ℕ) (run : Run) (moment : Passed) → At tick run moment → moment.0 < due_of (file_of state) run
        → Effect (poll tick out)
        (polled_to run tick out (outcome (answer.Wait (due_of (file_of state) run - moment.0)) (Running (waited run tick moment)) memory out))
    hands : (tick : Tick) (out : List ℕ) (run : Run) (moment : Passed) → At tick run moment → due_of (file_of state) run ≤ moment.0
        → Effect (poll tick out) (polled_to run tick out (hand_out (file_of state) run tick moment memory out run.next))

-- ---- each call is its effect

module _ (state : State) (memory : List ℕ) where
  abbrev b : ℕ
  b = (sizes_of state).bytes

  abbrev h : ℕ
  h = (sizes_of state).rows

  -- the cases of an upload: what was tested of the store and of the slot
  drawn : (call : Call) (slot : ℕ) (picture : List ℕ) → part_of call ≡ no_part → None (upload_cases state (length memory) slot)
      → length picture ≡ h * b
      → Effect state memory call (drawn_into state memory call slot picture)
  drawn call slot picture apart free long =
      let parts = none_parts (store_cases state (length memory)) (upload_own state.store slot) free in
      draws call slot picture apart (tested state (length memory) parts.0) (uploadable state.store slot parts.1) long

  region_effect : (slot x y width height : ℕ) (payload : List ℕ)
      → Effect state memory (upload_region slot x y width height payload) (call_on state memory (upload_region slot x y width height payload))
  unfolding region_upload with_region
  region_effect slot x y width height payload =
      let call = upload_region slot x y width height payload in
      let own = region_cases b h x y width height payload in
      by_cases (λ (r : Reply × List ℕ). Effect state memory call (of_reply call memory r.0 r.1 []))
      (upload_cases state (length memory) slot ++ own) (λ n. (reply n state, memory))
      (drawn_to state slot (region_drawn (sizes_of state) memory slot x y width height payload)) refl
      (λ n e. refuses call (number n) e)
      (λ free.
      let parts = none_parts (upload_cases state (length memory) slot) own free in
      let store = none_parts (store_cases state (length memory)) (upload_own state.store slot) parts.0 in
      let good = (valid-state (tested state (length memory) store.0).valid).good in
      let some = (size_of (panel_of (file_of state)) (good-panel (file_of state) good)).some in
      let dots = dot (payload_row width) payload in
      let rows = rows-overdrawn b h some (slot_picture b h memory slot) x y width height dots (dot_lt (payload_row width) payload) in
      drawn call slot _ refl parts.0 rows.0)

  bitmap_effect : (slot : ℕ) (file : List ℕ) → Effect state memory (upload_bitmap slot file) (call_on state memory (upload_bitmap slot file))
  unfolding bitmap_upload
  bitmap_effect slot file =
      let call = upload_bitmap slot file in
      let own = bitmap_cases (sizes_of state) file in
      by_cases (λ (r : Reply × List ℕ). Effect state memory call (of_reply call memory r.0 r.1 []))
      (upload_cases state (length memory) slot ++ own) (λ n. (reply n state, memory))
      (drawn_to state slot (bitmap_drawn (sizes_of state) memory slot file)) refl
      (λ n e. refuses call (number n) e)
      (λ free.
      drawn call slot _ refl (none_parts (upload_cases state (length memory) slot) own free).0 (length_read b h (sizes_of state).stride file))

  begin_effect : (slot : ℕ) → Effect state memory (begin_fill slot) (call_on state memory (begin_fill slot))
  unfolding fill_begin
  begin_effect slot =
      by_cases (λ (r : Reply). Effect state memory (begin_fill slot) (of_reply (begin_fill slot) memory r memory []))
      (begin_cases state (length memory) slot) (λ n. reply n state) (reply 0 (with_fill state (begun_fill slot))) refl
      (λ n e. refuses (begin_fill slot) (number n) e)
      (λ free.
      let parts = none_parts (store_cases state (length memory)) (begin_own state.store slot) free in
      begins slot (tested state (length memory) parts.0) (fillable state.store slot parts.1))

  fill_effect : (call : Call) (act : List ℕ → Fed × List ℕ) (writes : Fed → Bool) → Fills (sizes_of state) state.store.fill call act writes
      → out_of call ≡ []
      → Effect state memory call (of_reply call memory (on_fill state memory act writes).0 (on_fill state memory act writes).1 [])
  fill_effect call act writes kind none =
      by_cases (λ (r : Reply × List ℕ). Effect state memory call (of_reply call memory r.0 r.1 []))
      (fill_cases state (length memory)) (λ n. (reply n state, memory)) _ refl
      (λ n e. subst (λ (out : List ℕ). Effect state memory call (leaving call memory (number n) state memory out)) none (refuses call (number n) e))
      (λ free.
      let parts = none_parts (store_cases state (length memory)) (fill_own state.store) free in
      fills call act writes kind (tested state (length memory) parts.0) (filling state.store parts.1))

  feed_effect : (chunk : List ℕ) → Effect state memory (feed_fill chunk) (call_on state memory (feed_fill chunk))
  unfolding fill_feed
  feed_effect chunk =
      fill_effect (feed_fill chunk) (feeding b h (sizes_of state).stride state.store.fill chunk)
      (chunk_writes (sizes_of state).stride state.store.fill) (feeds chunk) refl

  finish_effect : Effect state memory finish_fill (call_on state memory finish_fill)
  unfolding fill_finish
  finish_effect = fill_effect finish_fill (finishing b h (sizes_of state).stride state.store.fill) finish_writes finishes refl

  cancel_effect : Effect state memory cancel_fill (call_on state memory cancel_fill)
  unfolding fill_cancel
  cancel_effect = fill_effect cancel_fill (λ raw. cancelling b h) (λ fed. true) cancels refl

  start_effect : (slot : ℕ) (tick : Tick) → Effect state memory (start slot tick) (call_on state memory (start slot tick))
  unfolding starting
  start_effect slot tick =
      by_cases (λ (r : Reply). Effect state memory (start slot tick) (of_reply (start slot tick) memory r memory []))
      (start_cases state (length memory) slot) (λ n. reply n state) (reply 0 (with_phase state (Running (begun slot tick)))) refl
      (λ n e. refuses (start slot tick) (number n) e)
      (λ free.
      let parts = none_parts (store_cases state (length memory)) (start_own state.store slot) free in
      starts slot tick (tested state (length memory) parts.0) (startable state.store slot parts.1))

  abandon_effect : Effect state memory abandon (call_on state memory abandon)
  unfolding abandoning
  abandon_effect =
      by_cases (λ (r : Reply). Effect state memory abandon (of_reply abandon memory r memory []))
      (abandon_cases state (length memory)) (λ n. reply n state) (reply 0 (with_phase state Abandoned)) refl
      (λ n e. refuses abandon (number n) e)
      (λ free.
      let parts = none_parts (store_cases state (length memory)) (abandon_own state.store) free in
      abandons (tested state (length memory) parts.0) (running state.store parts.1))

  write_effect : (slot : ℕ) (out : List ℕ) → Effect state memory (write_bitmap slot out) (call_on state memory (write_bitmap slot out))
  unfolding bitmap_write
  write_effect slot out =
      let call = write_bitmap slot out in
      by_cases (λ (r : Reply × List ℕ). Effect state memory call (of_reply call memory r.0 memory r.1))
      (write_cases state (length memory) slot (length out)) (λ n. (reply n state, out))
      (reply 0 state, bitmap_written (sizes_of state) memory slot out) refl
      (λ n e. refuses call (number n) e)
      (λ free. reads call _ refl (tested state (length memory) (none_parts (store_cases state (length memory)) _ free).0))

  summary_effect : (slot : ℕ) → Effect state memory (summary slot) (call_on state memory (summary slot))
  unfolding slot_summary
  summary_effect slot =
      by_cases (λ (r : Summarised). Effect state memory (summary slot) (of_summary (summary slot) memory r)) (summary_cases state slot)
      (λ n. summarised n empty_summary state) (summarised 0 (get_or state.store.summaries slot empty_summary) state) refl
      (λ n e. refuses (summary slot) (summed n empty_summary) e)
      (λ free. tells slot _ (told state slot free))

  -- ---- polls

  module _ (tick : Tick) (out : List ℕ) where
    abbrev Polls : Polling → Type 0
    Polls p = Effect state memory (poll tick out) (of_poll (poll tick out) memory p)

    refused-poll : (n : ℕ) → eqb n 0 ≡ false → Polls (polling (answer.Refused n) state memory out)
    refused-poll n e = refuses (poll tick out) (answered (answer.Refused n)) e

    of_run : (run : Run) → Tested state (length memory) → state.store.phase ≡ Running run
        → Polls (in_state state run.slot (poll_run (file_of state) run tick memory out))
    unfolding poll_run poll_at
    of_run run t e =
        let moment : Passed = record { 0 = passed_at run.passed run.last tick } in
        let due = due_of (file_of state) run in
        let at : At state memory tick run moment = record { tests = t; runs = e; is = refl } in
        by_cases (λ (o : Outcome). Polls (in_state state run.slot o)) (poll_cases run tick (length out))
        (λ n. outcome (answer.Refused n) (Running run) memory out) (poll_at (file_of state) run tick moment memory out) refl
        (λ n f. subst (λ (p : Phase). Polls (polling (answer.Refused n) (with_phase state p) memory out)) e (refused-poll n f))
        (λ free.
        by_test (λ (o : Outcome). Polls (in_state state run.slot o)) (ltb moment.0 due)
        (outcome (answer.Wait (due - moment.0)) (Running (waited run tick moment)) memory out)
        (hand_out (file_of state) run tick moment memory out run.next)
        (λ early. waits tick out run moment at (ltb-true _ _ early))
        (λ late. hands tick out run moment at (ltb-false _ _ late)))

    of_phase : (phase : Phase) → Tested state (length memory) → state.store.phase ≡ phase → Polls (poll_phase state tick memory out phase)
    of_phase Idle t e = refused-poll 9 refl
    of_phase Abandoned t e = refused-poll 9 refl
    of_phase (Running run) t e = of_run run t e

    poll_effect : Effect state memory (poll tick out) (call_on state memory (poll tick out))
    unfolding polled
    poll_effect =
        by_cases Polls (store_cases state (length memory)) (λ n. polling (answer.Refused n) state memory out)
        (poll_phase state tick memory out state.store.phase) refl refused-poll
        (λ free. of_phase state.store.phase (tested state (length memory) free) refl)

  -- ---- every call

  pub effect : (call : Call) → Effect state memory call (call_on state memory call)
  effect (upload_region slot x y width height payload) = region_effect slot x y width height payload
  effect (upload_bitmap slot file) = bitmap_effect slot file
  effect (begin_fill slot) = begin_effect slot
  effect (feed_fill chunk) = feed_effect chunk
  effect finish_fill = finish_effect
  effect cancel_fill = cancel_effect
  effect (start slot tick) = start_effect slot tick
  effect (poll tick out) = poll_effect tick out
  effect abandon = abandon_effect
  effect (write_bitmap slot out) = write_effect slot out
  effect (summary slot) = summary_effect slot
