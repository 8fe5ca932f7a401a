-- A bitmap file that comes in chunks, over lists of calls: while none of them ends the fill, the fill and its slot are those of the bytes
-- that came, whatever else is called.
-- Assumes nothing.
use mathlib.Core.Path.{◌≡◌, refl, sym, ap, ◌∙◌, subst}
use mathlib.Core.Bool.{Bool, true, false, cond, not, false≢true}
use mathlib.Core.List.{List, [], ◌∷◌, ◌++◌, map, append-nil, append_assoc}
use Prim.Native.Nat.{ℕ, ◌+◌, ◌*◌, ◌≤◌}
use native.Mathlib.Nat.{zero-div}
use native.Mathlib.Omega.{arith}
use borrow.Author.Tests.{ne_eqb, eqb-true, eqb-false, not-false, not-true}
use lib.Dec.{eqb}
use lib.ListN.{length, set, take, drop, replicate, length-append}
use lib.Seq.{take_at, drop_at, length-take-le, set-set}
use Rattle.lists.proofs.Parts.{part_length_lem}
use Rattle.lists.proofs.Rules.{and_left, and_right, by_cases, taken, none_both, none_parts}
use Rattle.panel.specs.Facts.{Sized}
use Rattle.panel.specs.Panels.{Sizes}
use Rattle.picture.specs.Slots.{picture_of, raw_of, slot_bytes, with_bytes, slot_picture, with_picture}
use Rattle.picture.proofs.Pictures.{Bytes, bytes_take, bytes_drop, bytes_append}
use Rattle.picture.proofs.Slots.{Rows, slot-fits, length_raw, blank_picture, picture_raw, length_with, bytes_same, bytes_other, with_own}
use Rattle.bitmap.specs.Bitmap.{bitmap_good}
use Rattle.bitmap_codec.specs.Codec.{read_picture}
use Rattle.bitmap_codec.proofs.RoundTrip.{rows_read}
use Rattle.bitmap_prefix.specs.Begins.{begins_good}
use Rattle.bitmap_prefix.proofs.Begins.{both, begins_front, begins_empty}
use Rattle.bitmap_prefix.proofs.Whole.{good-begins, good_length}
use Rattle.fill.specs.Fills.{begun_fill, empty_fill, rows_come, fill_of, slot_of}
use Rattle.fill_calls.specs.Calls.{feeding, finishing, cancelling, fed, ended, white_slot}
use Rattle.fill.specs.Conditions.{fill_valid}
use Rattle.fill.specs.declared.Fill.{Fill}
use Rattle.fill_calls.specs.declared.Fed.{Fed}
use Rattle.fill.proofs.Kept.{none_empty}
use Rattle.fill.proofs.Written.{rows_grow, rows_all}
use Rattle.fill.proofs.SoFar.{begun_so_far}
use Rattle.fill_calls.proofs.SoFar.{fed_so_far, finished_so_far}
use Rattle.run.specs.Runs.{begun, waited}
use Rattle.summary.specs.Summaries.{summary_of}
use Rattle.summary.specs.declared.Summary.{Summary}
use Rattle.run.specs.declared.Tick.{Tick}
use Rattle.run.specs.declared.Run.{Run}
use Rattle.run.specs.declared.Phase.{Phase}
use Rattle.run.specs.declared.Phase.TheVariants.{Idle, Abandoned, Running}
use Rattle.run.proofs.Valid as runs
use Rattle.poll.specs.HandOut.{Outcome, shown_after}
use Rattle.slots.specs.Slots.{counted_in, chunk_writes, finish_writes}
use Rattle.store.specs.Refusals.{is_filling, begin_own}
use Rattle.store.proofs.Conditions.{valid-state, run_of}
use Rattle.store.proofs.Cases.{Fillable, fillable, fill_free}
use Rattle.board.specs.State.{file_of, sizes_of, with_phase, with_fill, with_summaries, state_valid, store_cases}
use Rattle.board.specs.Calls.{reply, counted, drawn_to, bitmap_upload, begin_cases, fill_begin, fill_cases, fed_reply, on_fill, fill_feed, fill_finish, fill_cancel}
use Rattle.board.specs.History.{Call, upload_region, upload_bitmap, begin_fill, feed_fill, finish_fill, cancel_fill, start, poll, abandon, write_bitmap, summary, number, Called, call_on, memory_after}
use Rattle.board.specs.Chains.{Parts}
use Rattle.board.specs.declared.State.{State}
use Rattle.board.specs.declared.Reply.{Reply}
use Rattle.board.proofs.Tests.{Tested, tested, store_free}
use Rattle.board.proofs.Effects as effects
use Rattle.board.proofs.Effects.{Effect, Fills, feeds, finishes, cancels, polled_to, effect}
use Rattle.board.proofs.Filled.{act_length, act_unwritten, sized, filled_inside, filled_length}
use Rattle.theorems.specs.Progress.{state_after}
use Rattle.bitmap_prefix.specs.Meaning.{AreBytes}
use Rattle.theorems.specs.Fills.{chunk_of, sent_by, keeps_filling, all_keep_filling, number_of, begins, good, picture_in, white_picture, Begun, Filling, SlotAfter, Filled, Earns4, from_chunk, from_finish, the_begin, after_begin, FillsHold, BadFilesEarn4, FillsAsWhole}
use Rattle.theorems.proofs.Handed.{by_handed}
use Rattle.theorems.proofs.Kept.{leaves_valid, stays_valid}
use Rattle.theorems.proofs.RoundTrips.{uploads}

-- the parts of a list of bytes
bytes_front : (l m : List ℕ) → Bytes (l ++ m) → Bytes l
bytes_front l m are = let e : take (length l) (l ++ m) ≡ l = take_at l m (length l) refl in rw e at (bytes_take (length l) (l ++ m) are)

bytes_back : (l m : List ℕ) → Bytes (l ++ m) → Bytes m
bytes_back l m are = let e : drop (length l) (l ++ m) ≡ m = drop_at l m (length l) refl in rw e at (bytes_drop (length l) (l ++ m) are)

-- not a call of the fill
abbrev of_others : Call → Bool
of_others (upload_region slot x y width height payload) = true
of_others (upload_bitmap slot file) = true
of_others (begin_fill slot) = true
of_others (feed_fill chunk) = false
of_others finish_fill = false
of_others cancel_fill = false
of_others (start slot tick) = true
of_others (poll tick out) = true
of_others abandon = true
of_others (write_bitmap slot out) = true
of_others (summary slot) = true

-- ---- the fill and its slot are those of the bytes that came

module _ (slot : ℕ) (low : 1 ≤ slot) (raw : List ℕ) where
  -- on a panel of these sizes, the slot having held `raw` at the begin
  record Going (shape : Sizes) (bytes : List ℕ) (state : State) (memory : List ℕ) : Type 0 where
    pub sizes : sizes_of state ≡ shape
    pub tests : Tested state (length memory)
    pub fill_is : state.store.fill ≡ fill_of shape.stride slot bytes
    pub slot_is : slot_bytes shape.bytes shape.rows memory slot ≡ slot_of shape.bytes shape.rows shape.stride bytes raw

  filled_slot : (s : ℕ) (bytes : List ℕ) → (fill_of s slot bytes).slot ≡ slot
  unfolding fill_of
  filled_slot s bytes = refl

  module _ {bytes : List ℕ} {state : State} {memory : List ℕ} (g : Going (sizes_of state) bytes state memory) where
    abbrev b : ℕ
    b = (sizes_of state).bytes

    abbrev h : ℕ
    h = (sizes_of state).rows

    its_slot : state.store.fill.slot ≡ slot
    its_slot = ap (λ (f : Fill). f.slot) g.fill_is ∙ filled_slot (sizes_of state).stride bytes

    inside : slot * (h * b) + h * b ≤ length memory
    inside = subst (λ (k : ℕ). k * (h * b) + h * b ≤ length memory) its_slot (filled_inside state memory g.tests)

    -- ---- calls that are not the fill's

    -- a state that keeps the settings, the slots and the fill
    abbrev Next : Phase → List Summary → State
    Next phase summaries = with_summaries (with_phase state phase) summaries

    abbrev counts : List Summary
    counts = state.store.summaries

    -- the same memory, and such a state that is valid
    same : (phase : Phase) (summaries : List Summary) → state_valid (Next phase summaries) ≡ true
        → Going (sizes_of state) bytes (Next phase summaries) memory
    same phase summaries valid =
        record { sizes = refl; tests = record { valid = valid; exact = g.tests.exact }; fill_is = g.fill_is; slot_is = g.slot_is }

    -- another slot has other bytes
    module _ (t : ℕ) (apart : slot ≡ t → ⊥) (fits : t * (h * b) + h * b ≤ length memory) (left : List ℕ) (long : length left ≡ h * b) where
      other_bytes : slot_bytes b h (with_bytes b h memory t left) slot ≡ slot_of b h (sizes_of state).stride bytes raw
      other_bytes = bytes_other b h memory t fits left long slot apart ∙ g.slot_is

      other_length : length (with_bytes b h memory t left) ≡ length memory
      other_length = length_with b h memory t fits left long

      other : (phase : Phase) (summaries : List Summary) → state_valid (Next phase summaries) ≡ true
          → Going (sizes_of state) bytes (Next phase summaries) (with_bytes b h memory t left)
      other phase summaries valid =
          record {
            sizes = refl;
            tests = record { valid = valid; exact = other_length ∙ g.tests.exact };
            fill_is = g.fill_is;
            slot_is = other_bytes;
          }

    draws_going : (t : ℕ) (picture : List ℕ) → (slot ≡ t → ⊥) → t ≤ state.store.slots → length picture ≡ h * b
        → state_valid (counted (sizes_of state) state (with_picture b h memory t picture) t) ≡ true
        → Going (sizes_of state) bytes (counted (sizes_of state) state (with_picture b h memory t picture) t) (with_picture b h memory t picture)
    unfolding with_picture
    draws_going t picture apart high long valid =
        other t apart (slot-fits b h state.store.slots (length memory) g.tests.exact t high) (raw_of b h picture)
        (length_raw b h picture long) state.store.phase _ valid

    -- a poll hands out from the memory; done copies a slot to slot 0
    module _ (run : Run) (tick : Tick) (out : List ℕ) where
      abbrev Stays : Outcome → Type 0
      Stays o =
          state_valid (polled_to state memory run tick out o).state ≡ true
          → Going (sizes_of state) bytes (polled_to state memory run tick out o).state (polled_to state memory run tick out o).memory

      shown_going : (t : ℕ) (summaries : List Summary) → t ≤ state.store.slots → state_valid (Next Idle summaries) ≡ true
          → Going (sizes_of state) bytes (Next Idle summaries) (shown_after (file_of state) memory t)
      unfolding slot_bytes
      shown_going t summaries high valid =
          let bound = slot-fits b h state.store.slots (length memory) g.tests.exact in
          other 0 (λ e. absurd (omega arith)) (bound 0 (omega arith)) (slot_bytes b h memory t) (length-slot t (bound t high))
          Idle summaries valid
        where
          length-slot : (u : ℕ) → u * (h * b) + h * b ≤ length memory → length (slot_bytes b h memory u) ≡ h * b
          length-slot u fits = part_length_lem (u * (h * b)) (h * b) memory fits

    others : {call : Call} {called : Called} → Effect state memory call called → of_others call ≡ true
        → Going (sizes_of state) bytes called.state called.memory
    others (effects.refuses call given e) o = g
    others (effects.reads call out' e t) o = g
    others (effects.tells t held u) o = g
    others (effects.draws call t picture e u may long) o =
        draws_going t picture (λ q. eqb-false state.store.fill.slot t may.not_filled (its_slot ∙ q)) may.takes.high long
        (leaves_valid state memory g.tests.valid (effects.draws call t picture e u may long))
    others (effects.begins t u may) o =
        absurd (omega (arith, low, its_slot, eqb-true state.store.fill.slot 0 (not-false _ may.none_filled)))
    others (effects.fills call act writes (feeds chunk) t is) o = absurd (false≢true o)
    others (effects.fills call act writes finishes t is) o = absurd (false≢true o)
    others (effects.fills call act writes cancels t is) o = absurd (false≢true o)
    others (effects.starts t tick u may) o =
        same (Running (begun t tick)) counts (leaves_valid state memory g.tests.valid (effects.starts t tick u may))
    others (effects.abandons t is) o = same Abandoned counts (leaves_valid state memory g.tests.valid (effects.abandons t is))
    others (effects.waits tick out run moment at before) o =
        same (Running (waited run tick moment)) counts (leaves_valid state memory g.tests.valid (effects.waits tick out run moment at before))
    others (effects.hands tick out run moment at due) o =
        by_handed (file_of state) run tick moment memory out (Stays run tick out) (λ step next valid. same _ _ valid)
        (λ first stage frame row valid. same _ _ valid)
        (shown_going run tick out run.slot _
        (runs.valid (file_of state) state.store.slots run (run_of (valid-state g.tests.valid) at.runs)).high)
        run.next
        (leaves_valid state memory g.tests.valid (effects.hands tick out run moment at due))

    -- ---- the fill's own calls

    abbrev s : ℕ
    s = (sizes_of state).stride

    filling : is_filling state.store.fill ≡ true
    filling = ap not (ne_eqb state.store.fill.slot 0 (λ z. absurd (omega (arith, low, its_slot))))

    -- the bytes that the slot holds
    abbrev held : List ℕ
    held = slot_of b h s bytes raw

    held_length : length held ≡ h * b
    held_length =
        sym (ap length g.slot_is) ∙ subst (λ (k : ℕ). length (slot_bytes b h memory k) ≡ h * b) its_slot (filled_length state memory g.tests)

    -- the reply to this and what it leaves in the slot
    abbrev Done : (writes : Fill → Fed → Bool) → Fed × List ℕ → Reply × List ℕ
    Done writes r =
        let after : List ℕ = with_bytes b h memory slot r.1 in
        (fed_reply (sizes_of state) state (writes (fill_of s slot bytes) r.0) after r.0, after)

    -- what is done is done to the fill and the slot of the bytes that came
    acted : (act : Fill → List ℕ → Fed × List ℕ) (writes : Fill → Fed → Bool)
        → on_fill state memory (act state.store.fill) (writes state.store.fill) ≡ Done writes (act (fill_of s slot bytes) held)
    acted act writes =
        taken (fill_cases state (length memory)) (λ n. (reply n state, memory)) _
        (none_both (store_free state (length memory) g.tests) (fill_free state.store filling))
        ∙ ap
        (λ (f : Fill).
        let r : Fed × List ℕ = act f (slot_bytes b h memory f.slot) in
        let after : List ℕ = with_bytes b h memory f.slot r.1 in
        (fed_reply (sizes_of state) state (writes f r.0) after r.0, after))
        g.fill_is
        ∙ rw (filled_slot s bytes, g.slot_is)

    -- what a call answers and leaves in the slot, where it does this
    module _ {call : Call} (act : Fill → List ℕ → Fed × List ℕ) (writes : Fill → Fed → Bool)
        (kind : Fills (sizes_of state) (fill_of s slot bytes) call (act (fill_of s slot bytes)) (writes (fill_of s slot bytes)))
        {r : Fed × List ℕ} (is : act (fill_of s slot bytes) held ≡ r) where
      left_length : length r.1 ≡ h * b
      left_length =
          ap (λ (q : Fed × List ℕ). length q.1) (sym is)
          ∙ act_length kind (sized state memory g.tests)
          (ap (fill_valid b h s) (sym g.fill_is) ∙ (valid-state g.tests.valid).fill_good) held held_length

      whole : on_fill state memory (act state.store.fill) (writes state.store.fill) ≡ Done writes r
      whole = acted act writes ∙ ap (Done writes) is

      answer-is : (on_fill state memory (act state.store.fill) (writes state.store.fill)).0.number ≡ r.0.number
      answer-is = ap (λ (q : Reply × List ℕ). q.0.number) whole

      slot_after : slot_picture b h (on_fill state memory (act state.store.fill) (writes state.store.fill)).1 slot ≡ picture_of b h r.1
      unfolding slot_picture
      slot_after =
          ap (λ (q : Reply × List ℕ). picture_of b h (slot_bytes b h q.1 slot)) whole
          ∙ ap (picture_of b h) (bytes_same b h memory slot inside r.1 left_length)

    -- a chunk is taken
    fed_going : (chunk : List ℕ) → feeding b h s (fill_of s slot bytes) chunk held ≡ (fed 0 (fill_of s slot (bytes ++ chunk)), slot_of b h s (bytes ++ chunk) raw)
        → Going (sizes_of state) (bytes ++ chunk) (call_on state memory (feed_fill chunk)).state (call_on state memory (feed_fill chunk)).memory
    unfolding fill_feed
    fed_going chunk is =
        let act : Fill → List ℕ → Fed × List ℕ = λ f. feeding b h s f chunk in
        let long = left_length act (chunk_writes s) (feeds chunk) is in
        subst (λ (q : Reply × List ℕ). state_valid q.0.state ≡ true → Going (sizes_of state) (bytes ++ chunk) q.0.state q.1)
        (sym (whole act (chunk_writes s) (feeds chunk) is))
        (λ valid.
        record {
          sizes = refl;
          tests = record { valid = valid; exact = length_with b h memory slot inside _ long ∙ g.tests.exact };
          fill_is = refl;
          slot_is = bytes_same b h memory slot inside _ long;
        })
        (stays_valid state memory g.tests.valid (feed_fill chunk))

-- ---- on a panel of these sizes, whose slot held `raw` at the begin

module _ (slot : ℕ) (low : 1 ≤ slot) (raw : List ℕ) (shape : Sizes) (z : Sized shape) (rows : Rows shape.bytes shape.rows raw) where
  abbrev b₁ : ℕ
  b₁ = shape.bytes

  abbrev h₁ : ℕ
  h₁ = shape.rows

  abbrev s₁ : ℕ
  s₁ = shape.stride

  abbrev So : (bytes : List ℕ) (state : State) (memory : List ℕ) → Type 0
  So = Going slot low raw shape

  -- what a call answers, and leaves in the slot
  abbrev Answers : (k : Sizes) → Fed × List ℕ → Reply × List ℕ → Type 0
  Answers k r q = (q.0.number ≡ r.0.number) × (slot_picture k.bytes k.rows q.1 slot ≡ picture_of k.bytes k.rows r.1)

  answered : {bytes : List ℕ} {state : State} {memory : List ℕ} → So bytes state memory → (call : Call)
      → (act : Sizes → Fill → List ℕ → Fed × List ℕ) (writes : Sizes → Fill → Fed → Bool)
      → ((k : Sizes) (f : Fill) → Fills k f call (act k f) (writes k f)) → {r : Fed × List ℕ}
      → act shape (fill_of s₁ slot bytes) (slot_of b₁ h₁ s₁ bytes raw) ≡ r
      → Answers shape r (on_fill state memory (act (sizes_of state) state.store.fill) (writes (sizes_of state) state.store.fill))
  answered {bytes} {state} {memory} g call act writes kind {r} is =
      subst
      (λ (k : Sizes).
      Going slot low raw k bytes state memory → act k (fill_of k.stride slot bytes) (slot_of k.bytes k.rows k.stride bytes raw) ≡ r
      → Answers k r (on_fill state memory (act (sizes_of state) state.store.fill) (writes (sizes_of state) state.store.fill)))
      g.sizes
      (λ g' is'.
      let k = sizes_of state in
      (answer-is slot low raw g' (act k) (writes k) (kind k _) is', slot_after slot low raw g' (act k) (writes k) (kind k _) is'))
      g is

  module _ {bytes : List ℕ} {state : State} {memory : List ℕ} (g : So bytes state memory) (are : Bytes bytes)
      (begun : begins_good b₁ h₁ s₁ bytes ≡ true) where
    -- a chunk
    module _ (chunk : List ℕ) (new : Bytes chunk) where
      feeding-is : feeding b₁ h₁ s₁ (fill_of s₁ slot bytes) chunk (slot_of b₁ h₁ s₁ bytes raw)
          ≡ cond (begins_good b₁ h₁ s₁ (bytes ++ chunk)) (fed 0 (fill_of s₁ slot (bytes ++ chunk)), slot_of b₁ h₁ s₁ (bytes ++ chunk) raw)
          (ended b₁ h₁ 4)
      feeding-is = fed_so_far b₁ h₁ s₁ z.some z.narrow z.within z.small z.low slot raw rows bytes are begun chunk new

      chunk_answers : {t : Bool} → begins_good b₁ h₁ s₁ (bytes ++ chunk) ≡ t
          → Answers shape
          (cond t (fed 0 (fill_of s₁ slot (bytes ++ chunk)), slot_of b₁ h₁ s₁ (bytes ++ chunk) raw) (ended b₁ h₁ 4))
          (fill_feed state memory chunk)
      unfolding fill_feed
      chunk_answers {t} e =
          let taken_in : Fed × List ℕ = (fed 0 (fill_of s₁ slot (bytes ++ chunk)), slot_of b₁ h₁ s₁ (bytes ++ chunk) raw) in
          answered g (feed_fill chunk) (λ k f. feeding k.bytes k.rows k.stride f chunk) (λ k. chunk_writes k.stride) (λ k f. feeds chunk)
          {r = cond t taken_in (ended b₁ h₁ 4)} (feeding-is ∙ ap (λ (u : Bool). cond u taken_in (ended b₁ h₁ 4)) e)

      chunk_going : begins_good b₁ h₁ s₁ (bytes ++ chunk) ≡ true
          → So (bytes ++ chunk) (call_on state memory (feed_fill chunk)).state (call_on state memory (feed_fill chunk)).memory
      chunk_going e =
          subst
          (λ (k : Sizes).
          Going slot low raw k bytes state memory
          → feeding k.bytes k.rows k.stride (fill_of k.stride slot bytes) chunk (slot_of k.bytes k.rows k.stride bytes raw)
          ≡ (fed 0 (fill_of k.stride slot (bytes ++ chunk)), slot_of k.bytes k.rows k.stride (bytes ++ chunk) raw)
          → Going slot low raw k (bytes ++ chunk) (call_on state memory (feed_fill chunk)).state (call_on state memory (feed_fill chunk)).memory)
          g.sizes (λ g' is. fed_going slot low raw g' chunk is) g (feeding-is ∙ rw e)

    finish_answers : {t : Bool} → bitmap_good b₁ h₁ s₁ bytes ≡ t
        → Answers shape (cond t (fed 0 empty_fill, raw_of b₁ h₁ (read_picture b₁ h₁ s₁ bytes)) (ended b₁ h₁ 4)) (fill_finish state memory)
    unfolding fill_finish
    finish_answers {t} e =
        let whole_file : Fed × List ℕ = (fed 0 empty_fill, raw_of b₁ h₁ (read_picture b₁ h₁ s₁ bytes)) in
        answered g finish_fill (λ k f. finishing k.bytes k.rows k.stride f) (λ k f. finish_writes) (λ k f. finishes)
        {r = cond t whole_file (ended b₁ h₁ 4)}
        (finished_so_far b₁ h₁ s₁ z.some z.narrow z.within z.small z.low slot raw rows bytes are begun
        ∙ ap (λ (u : Bool). cond u whole_file (ended b₁ h₁ 4)) e)

    cancel_answers : Answers shape (ended b₁ h₁ 0) (fill_cancel state memory)
    unfolding fill_cancel cancelling
    cancel_answers = answered g cancel_fill (λ k f old. cancelling k.bytes k.rows) (λ k f fed. true) (λ k f. cancels) {r = ended b₁ h₁ 0} refl

    -- a call that is not the fill's
    other_going : (call : Call) → of_others call ≡ true → So bytes (call_on state memory call).state (call_on state memory call).memory
    other_going call o =
        subst
        (λ (k : Sizes).
        Going slot low raw k bytes state memory
        → Going slot low raw k bytes (call_on state memory call).state (call_on state memory call).memory)
        g.sizes (λ g'. others slot low raw g' (effect state memory call) o) g

    step : (call : Call) → keeps_filling call ≡ true → Bytes (chunk_of call) → begins_good b₁ h₁ s₁ (bytes ++ chunk_of call) ≡ true
        → So (bytes ++ chunk_of call) (call_on state memory call).state (call_on state memory call).memory
    step (upload_region t x y width height payload) k new e = rw (append-nil bytes) (other_going (upload_region t x y width height payload) refl)
    step (upload_bitmap t file) k new e = rw (append-nil bytes) (other_going (upload_bitmap t file) refl)
    step (begin_fill t) k new e = rw (append-nil bytes) (other_going (begin_fill t) refl)
    step (feed_fill chunk) k new e = chunk_going chunk new e
    step finish_fill k new e = absurd (false≢true k)
    step cancel_fill k new e = absurd (false≢true k)
    step (start t tick) k new e = rw (append-nil bytes) (other_going (start t tick) refl)
    step (poll tick out) k new e = rw (append-nil bytes) (other_going (poll tick out) refl)
    step abandon k new e = rw (append-nil bytes) (other_going abandon refl)
    step (write_bitmap t out) k new e = rw (append-nil bytes) (other_going (write_bitmap t out) refl)
    step (summary t) k new e = rw (append-nil bytes) (other_going (summary t) refl)

  -- ---- every list of calls

  all_going : (calls : List Call) {bytes : List ℕ} {state : State} {memory : List ℕ} → So bytes state memory → Bytes bytes
      → all_keep_filling calls ≡ true → Bytes (sent_by calls) → begins_good b₁ h₁ s₁ (bytes ++ sent_by calls) ≡ true
      → So (bytes ++ sent_by calls) (state_after state memory calls) (memory_after state memory calls)
  all_going [] {bytes} g are unended new e = rw (append-nil bytes) g
  all_going (call ∷ calls) {bytes} {state} {memory} g are unended new e =
      let chunk : List ℕ = chunk_of call in
      let rest : List ℕ = sent_by calls in
      let joined : (bytes ++ chunk) ++ rest ≡ bytes ++ (chunk ++ rest) = append_assoc bytes chunk rest in
      let here = begins_front bytes (chunk ++ rest) b₁ h₁ s₁ e in
      let now = begins_front (bytes ++ chunk) rest b₁ h₁ s₁ (ap (begins_good b₁ h₁ s₁) joined ∙ e) in
      let first = step g are here call (and_left (keeps_filling call) (all_keep_filling calls) unended) (bytes_front chunk rest new) now in
      rw (← joined)
      (all_going calls first (bytes_append bytes chunk are (bytes_front chunk rest new)) (and_right (keeps_filling call) (all_keep_filling calls) unended)
      (bytes_back chunk rest new) (ap (begins_good b₁ h₁ s₁) joined ∙ e))

-- ---- from an accepted begin

module _ (state : State) (memory : List ℕ) (slot : ℕ) where
  -- what holds of an accepted begin
  accepted_begin : (P : Reply → Type 0)
      → (Tested state (length memory) → Fillable state.store slot → P (reply 0 (with_fill state (begun_fill slot))))
      → (fill_begin state (length memory) slot).number ≡ 0 → P (fill_begin state (length memory) slot)
  unfolding fill_begin
  accepted_begin P then =
      by_cases (λ (r : Reply). r.number ≡ 0 → P r) (begin_cases state (length memory) slot) (λ n. reply n state)
      (reply 0 (with_fill state (begun_fill slot))) refl
      (λ n e zero. absurd (eqb-false n 0 e zero))
      (λ free zero.
      let parts = none_parts (store_cases state (length memory)) (begin_own state.store slot) free in
      then (tested state (length memory) parts.0) (fillable state.store slot parts.1))

-- bytes FF are a white picture
white_picture_lem : (b h : ℕ) → picture_of b h (white_slot b h) ≡ replicate (h * b) 0xFF
white_picture_lem b h = blank_picture b h

-- a list of calls, of which the last is not made yet
pub state-append : (state : State) (memory : List ℕ) (calls more : List Call)
    → state_after state memory (calls ++ more) ≡ state_after (state_after state memory calls) (memory_after state memory calls) more
state-append state memory [] more = refl
state-append state memory (call ∷ calls) more = state-append (call_on state memory call).state (call_on state memory call).memory calls more

pub memory-append : (state : State) (memory : List ℕ) (calls more : List Call)
    → memory_after state memory (calls ++ more) ≡ memory_after (state_after state memory calls) (memory_after state memory calls) more
memory-append state memory [] more = refl
memory-append state memory (call ∷ calls) more = memory-append (call_on state memory call).state (call_on state memory call).memory calls more

-- ---- what holds since an accepted begin

module _ (state : State) (memory : List ℕ) (slot : ℕ) (accepted : (fill_begin state (length memory) slot).number ≡ 0) (bytes : AreBytes memory) where
  abbrev b₂ : ℕ
  b₂ = (sizes_of state).bytes

  abbrev h₂ : ℕ
  h₂ = (sizes_of state).rows

  abbrev s₂ : ℕ
  s₂ = (sizes_of state).stride

  -- what the slot held at the begin
  abbrev old : List ℕ
  old = slot_bytes b₂ h₂ memory slot

  abbrev from : State
  from = (fill_begin state (length memory) slot).state

  -- what the begin has tested, and what it leaves
  starts : (fill_begin state (length memory) slot ≡ reply 0 (with_fill state (begun_fill slot)))
      × Tested state (length memory)
      × Fillable state.store slot
  starts =
      accepted_begin state memory slot
      (λ r. (r ≡ reply 0 (with_fill state (begun_fill slot))) × Tested state (length memory) × Fillable state.store slot)
      (λ t may. (refl, t, may)) accepted

  low : 1 ≤ slot
  low = starts.2.upload.takes.low

  z : Sized (sizes_of state)
  z = sized state memory starts.1

  rows : Rows b₂ h₂ old
  unfolding slot_bytes
  rows = (
    part_length_lem (slot * (h₂ * b₂)) (h₂ * b₂) memory
        (slot-fits b₂ h₂ state.store.slots (length memory) starts.1.exact slot starts.2.upload.takes.high),
    bytes_take (h₂ * b₂) (drop (slot * (h₂ * b₂)) memory) (bytes_drop (slot * (h₂ * b₂)) memory bytes),
  )

  so : begun_fill slot ≡ fill_of s₂ slot [] × (slot_of b₂ h₂ s₂ [] old ≡ old)
  so = begun_so_far b₂ h₂ s₂ z.some z.narrow z.within z.small z.low slot old rows

  begun_going : Going slot low old (sizes_of state) [] from memory
  begun_going =
      subst
      (λ (r : Reply). state_valid r.state ≡ true → Going slot low old (sizes_of state) [] r.state memory) (sym starts.0)
      (λ valid.
      record { sizes = refl; tests = record { valid = valid; exact = starts.1.exact }; fill_is = so.0; slot_is = sym so.1 })
      (stays_valid state memory starts.1.valid (begin_fill slot))

  module _ (calls : List Call) (sent : AreBytes (sent_by calls)) (unended : all_keep_filling calls ≡ true) where
    -- after the calls, where what they sent begins a good file
    module _ (begun : begins state (sent_by calls) ≡ true) where
      now_going : Going slot low old (sizes_of state) (sent_by calls) (state_after from memory calls) (memory_after from memory calls)
      now_going = all_going slot low old (sizes_of state) z rows calls begun_going (λ k. omega arith) unended sent begun

    -- what is said of a call of this kind is said of it
    module _ (call : Call) where
      abbrev place : Parts
      place = after_begin state memory slot calls call

      as_this : {kind : Call} (P : Parts → Type 0) → call ≡ kind → P (after_begin state memory slot calls kind) → P place
      as_this P is = subst (λ (c : Call). P (after_begin state memory slot calls c)) (sym is)

      abbrev Left : (number : ℕ) (picture : List ℕ) → Parts → Type 0
      Left = SlotAfter (the_begin state memory slot) slot

      filled : Filled (the_begin state memory slot) slot calls place
      filled =
          record {
            so_far = λ begun. (now_going begun).slot_is;
            taken =
                λ chunk is new e.
                let begun = begins_front (sent_by calls) chunk b₂ h₂ s₂ e in
                as_this (λ p. number_of p ≡ 0) is
                (chunk_answers slot low old (sizes_of state) z rows (now_going begun) sent begun chunk new e).0;
            refused =
                λ chunk is new begun e.
                let a = chunk_answers slot low old (sizes_of state) z rows (now_going begun) sent begun chunk new e in
                as_this (Left 4 (white_picture state)) is (record { answers = a.0; holds = a.1 ∙ white_picture_lem b₂ h₂ });
            finished =
                λ is good.
                let begun = good-begins b₂ h₂ s₂ z.narrow z.low z.small (sent_by calls) sent good in
                let a = finish_answers slot low old (sizes_of state) z rows (now_going begun) sent begun good in
                let read = picture_raw b₂ h₂ z.some (read_picture b₂ h₂ s₂ (sent_by calls)) (rows_read b₂ h₂ s₂ (sent_by calls) sent) in
                as_this (Left 0 (picture_in state (sent_by calls))) is (record { answers = a.0; holds = a.1 ∙ read });
            cut_short =
                λ is begun bad.
                let a = finish_answers slot low old (sizes_of state) z rows (now_going begun) sent begun bad in
                as_this (Left 4 (white_picture state)) is (record { answers = a.0; holds = a.1 ∙ white_picture_lem b₂ h₂ });
            cancelled =
                λ is begun.
                let a = cancel_answers slot low old (sizes_of state) z rows (now_going begun) sent begun in
                as_this (Left 0 (white_picture state)) is (record { answers = a.0; holds = a.1 ∙ white_picture_lem b₂ h₂ });
          }

pub fills_hold : FillsHold
fills_hold state memory slot b calls f = filled state memory slot b.accepted b.memory_bytes calls f.sent_bytes f.unended

-- ---- where a file that is not good gets its 4

-- a call that feeds nothing, or a chunk
data Feeds (call : Call) : Type 0 where
  none : chunk_of call ≡ [] → Feeds call
  some : (bytes : List ℕ) → call ≡ feed_fill bytes → Feeds call

what_feeds : (call : Call) → Feeds call
what_feeds (upload_region slot x y width height payload) = none refl
what_feeds (upload_bitmap slot file) = none refl
what_feeds (begin_fill slot) = none refl
what_feeds (feed_fill bytes) = some bytes refl
what_feeds finish_fill = none refl
what_feeds cancel_fill = none refl
what_feeds (start slot tick) = none refl
what_feeds (poll tick out) = none refl
what_feeds abandon = none refl
what_feeds (write_bitmap slot out) = none refl
what_feeds (summary slot) = none refl

sent-append : (calls more : List Call) → sent_by (calls ++ more) ≡ sent_by calls ++ sent_by more
sent-append [] more = refl
sent-append (call ∷ calls) more = ap (λ (l : List ℕ). chunk_of call ++ l) (sent-append calls more) ∙ sym (append_assoc (chunk_of call) (sent_by calls) (sent_by more))

keep_front : (calls more : List Call) → all_keep_filling (calls ++ more) ≡ true → all_keep_filling calls ≡ true
keep_front [] more e = refl
keep_front (call ∷ calls) more e =
    both (and_left (keeps_filling call) (all_keep_filling (calls ++ more)) e)
    (keep_front calls more (and_right (keeps_filling call) (all_keep_filling (calls ++ more)) e))

-- the calls up to some place
filling_front : (before rest : List Call) → Filling (before ++ rest) → Filling before
filling_front before rest f =
    record {
      sent_bytes = bytes_front (sent_by before) (sent_by rest) (subst Bytes (sent-append before rest) f.sent_bytes);
      unended = keep_front before rest f.unended;
    }

module _ (state : State) (memory : List ℕ) (slot : ℕ) (b : Begun (the_begin state memory slot) slot) where
  abbrev Earns : List Call → Type 0
  Earns = Earns4 (the_begin state memory slot) slot (λ before p. p ≡ after_begin state memory slot before p.call)

  first_bad : (rest before : List Call) → Filling (before ++ rest) → begins state (sent_by before) ≡ true
      → begins state (sent_by (before ++ rest)) ≡ false → Earns (before ++ rest)
  first_bad [] before f good bad = absurd (false≢true (sym bad ∙ ap (λ (l : List Call). begins state (sent_by l)) (append-nil before) ∙ good))
  first_bad (call ∷ rest) before f good bad =
      by_chunk (first_bad rest (before ++ (call ∷ []))) (begins state (sent_by before ++ chunk_of call)) refl (what_feeds call)
    where
      one : before ++ (call ∷ rest) ≡ (before ++ (call ∷ [])) ++ rest
      one = sym (append_assoc before (call ∷ []) rest)

      sent_one : sent_by (before ++ (call ∷ [])) ≡ sent_by before ++ chunk_of call
      sent_one = sent-append before (call ∷ []) ∙ ap (λ (l : List ℕ). sent_by before ++ l) (append-nil (chunk_of call))

      by_chunk : (Filling ((before ++ (call ∷ [])) ++ rest) → begins state (sent_by (before ++ (call ∷ []))) ≡ true
          → begins state (sent_by ((before ++ (call ∷ [])) ++ rest)) ≡ false → Earns ((before ++ (call ∷ [])) ++ rest))
          → (t : Bool) → begins state (sent_by before ++ chunk_of call) ≡ t → Feeds call → Earns (before ++ (call ∷ rest))
      by_chunk later true e fed_by =
          subst Earns (sym one)
          (later (subst Filling one f) (ap (begins state) sent_one ∙ e) (ap (λ (l : List Call). begins state (sent_by l)) (sym one) ∙ bad))
      by_chunk later false e (none silent) =
          absurd (false≢true (sym e ∙ ap (λ (l : List ℕ). begins state (sent_by before ++ l)) silent ∙ ap (begins state) (append-nil (sent_by before)) ∙ good))
      by_chunk later false e (some new is) =
          let whole = subst (λ (c : Call). Filling (before ++ (c ∷ rest))) is f in
          let all : Bytes (sent_by before ++ (new ++ sent_by rest)) = subst Bytes (sent-append before (feed_fill new ∷ rest)) whole.sent_bytes in
          let are : Bytes new = bytes_front new (sent_by rest) (bytes_back (sent_by before) (new ++ sent_by rest) all) in
          let wrong : begins state (sent_by before ++ new) ≡ false = ap (λ (c : Call). begins state (sent_by before ++ chunk_of c)) (sym is) ∙ e in
          from_chunk before new rest (ap (λ (c : Call). before ++ (c ∷ rest)) is) good wrong (after_begin state memory slot before (feed_fill new)) refl refl
          ((fills_hold state memory slot b before (filling_front before (feed_fill new ∷ rest) whole) (feed_fill new)).refused new refl are good wrong)

  bad_earns : (calls : List Call) → Filling calls → good state (sent_by calls) ≡ false → Earns calls
  bad_earns calls f bad = go (begins state (sent_by calls)) refl
    where
      go : (t : Bool) → begins state (sent_by calls) ≡ t → Earns calls
      go true e = from_finish e (after_begin state memory slot calls finish_fill) refl refl ((fills_hold state memory slot b calls f finish_fill).cut_short refl e bad)
      go false e = first_bad calls [] f (begins_empty (sizes_of state).bytes (sizes_of state).rows (sizes_of state).stride) e

pub bad_files_earn_4 : BadFilesEarn4
bad_files_earn_4 = bad_earns

-- ---- with no other call between

-- bytes put into a slot twice
with_twice : (b h : ℕ) (memory : List ℕ) (slot : ℕ) (first second : List ℕ) → slot * (h * b) ≤ length memory → length first ≡ length second
    → with_bytes b h (with_bytes b h memory slot first) slot second ≡ with_bytes b h memory slot second
unfolding with_bytes
with_twice b h memory slot first second fits same =
    let at : ℕ = slot * (h * b) in
    let front : List ℕ = take at memory in
    let rest : List ℕ = drop (length first) (drop at memory) in
    let long : length front ≡ at = length-take-le at memory fits in
    let before : take at (front ++ (first ++ rest)) ≡ front = take_at front (first ++ rest) at long in
    let after : drop at (front ++ (first ++ rest)) ≡ first ++ rest = drop_at front (first ++ rest) at long in
    let cut : drop (length second) (first ++ rest) ≡ rest = drop_at first rest (length second) same in
    rw (before, after, cut, same)

module _ (state : State) (memory : List ℕ) (slot : ℕ) (accepted : (fill_begin state (length memory) slot).number ≡ 0) (bytes : AreBytes memory) where
  abbrev b₃ : ℕ
  b₃ = (sizes_of state).bytes

  abbrev h₃ : ℕ
  h₃ = (sizes_of state).rows

  abbrev s₃ : ℕ
  s₃ = (sizes_of state).stride

  abbrev its_raw : List ℕ
  its_raw = slot_bytes b₃ h₃ memory slot

  inside-memory : slot * (h₃ * b₃) + h₃ * b₃ ≤ length memory
  inside-memory =
      let t = starts state memory slot accepted bytes in
      slot-fits b₃ h₃ state.store.slots (length memory) t.1.exact slot t.2.upload.takes.high

  abbrev low₃ : 1 ≤ slot
  low₃ = low state memory slot accepted bytes

  -- the memory with these bytes come, the summaries, of which that of the slot is counted once a row is whole, and the state
  abbrev M : List ℕ → List ℕ
  M sent = with_bytes b₃ h₃ memory slot (slot_of b₃ h₃ s₃ sent its_raw)

  abbrev before : List Summary
  before = state.store.summaries

  abbrev C : List ℕ → List Summary
  C sent = cond (eqb (rows_come s₃ (length sent)) 0) before (counted_in (sizes_of state) (M sent) slot before)

  abbrev S : List ℕ → State
  S sent = with_summaries (with_fill state (fill_of s₃ slot sent)) (C sent)

  abbrev Here : List ℕ → Type 0
  Here sent = Going slot low₃ its_raw (sizes_of state) sent (S sent) (M sent)

  -- what is left in the slot replaces what came before
  module _ (sent : List ℕ) (g : Here sent) where
    replaced : (left : List ℕ) → length left ≡ h₃ * b₃ → with_bytes b₃ h₃ (M sent) slot left ≡ with_bytes b₃ h₃ memory slot left
    replaced left long =
        with_twice b₃ h₃ memory slot _ left (omega (arith, inside-memory)) (held_length slot low₃ its_raw g ∙ sym long)

    module _ {call : Call} (act : Fill → List ℕ → Fed × List ℕ) (writes : Fill → Fed → Bool)
        (kind : Fills (sizes_of state) (fill_of s₃ slot sent) call (act (fill_of s₃ slot sent)) (writes (fill_of s₃ slot sent)))
        {r : Fed × List ℕ} (is : act (fill_of s₃ slot sent) (slot_of b₃ h₃ s₃ sent its_raw) ≡ r) where
      abbrev after : List ℕ
      after = with_bytes b₃ h₃ memory slot r.1

      on_fill_lem : on_fill (S sent) (M sent) (act (fill_of s₃ slot sent)) (writes (fill_of s₃ slot sent))
          ≡ (fed_reply (sizes_of state) (S sent) (writes (fill_of s₃ slot sent) r.0) after r.0, after)
      on_fill_lem =
          whole slot low₃ its_raw g act writes kind is
          ∙ ap
          (λ (l : List ℕ). (fed_reply (sizes_of state) (S sent) (writes (fill_of s₃ slot sent) r.0) l r.0, l))
          (replaced r.1 (left_length slot low₃ its_raw g act writes kind is))

  module _ (sent : List ℕ) (g : Here sent) (are : Bytes sent) (begun : begins state sent ≡ true) where
    abbrev z₃ : Sized (sizes_of state)
    z₃ = z state memory slot accepted bytes

    rows₃ : Rows b₃ h₃ its_raw
    rows₃ = rows state memory slot accepted bytes

    -- a chunk that makes no row whole leaves the slot, and its summary; one that does leaves a fresh count
    module _ (chunk : List ℕ) (new : Bytes chunk) (e : begins state (sent ++ chunk) ≡ true) where
      abbrev taken_in : Fed × List ℕ
      taken_in = (fed 0 (fill_of s₃ slot (sent ++ chunk)), slot_of b₃ h₃ s₃ (sent ++ chunk) its_raw)

      chunk_is : feeding b₃ h₃ s₃ (fill_of s₃ slot sent) chunk (slot_of b₃ h₃ s₃ sent its_raw) ≡ taken_in
      chunk_is =
          feeding-is slot low₃ its_raw (sizes_of state) z₃ rows₃ g are begun chunk new
          ∙ ap (λ (u : Bool). cond u taken_in (ended b₃ h₃ 4)) e

      abbrev wrote : Bool
      wrote = chunk_writes s₃ (fill_of s₃ slot sent) (fed 0 (fill_of s₃ slot (sent ++ chunk)))

      wrote_is : wrote ≡ not (eqb (rows_come s₃ (length (sent ++ chunk))) (rows_come s₃ (length sent)))
      unfolding fill_of
      wrote_is = refl

      unwritten : wrote ≡ false → M sent ≡ M (sent ++ chunk)
      unwritten w =
          ap (with_bytes b₃ h₃ memory slot)
          (sym (act_unwritten {fill = fill_of s₃ slot sent} (feeds chunk) z₃ (slot_of b₃ h₃ s₃ sent its_raw)
          (ap (λ (r : Fed × List ℕ). chunk_writes s₃ (fill_of s₃ slot sent) r.0) chunk_is ∙ w))
          ∙ ap (λ (r : Fed × List ℕ). r.1) chunk_is)

      grown : rows_come s₃ (length sent) ≤ rows_come s₃ (length (sent ++ chunk))
      grown = rows_grow s₃ (omega (arith, z₃.some, z₃.within)) (length sent) (length (sent ++ chunk)) (simp length-append (omega arith))

      counted_next : cond wrote (counted_in (sizes_of state) (M (sent ++ chunk)) slot (C sent)) (C sent) ≡ C (sent ++ chunk)
      counted_next = go wrote refl
        where
          some_rows : ℕ
          some_rows = rows_come s₃ (length (sent ++ chunk))

          fresh : Summary
          fresh = summary_of b₃ h₃ (slot_picture b₃ h₃ (M (sent ++ chunk)) slot)

          again : (t : Bool) (held : Summary) → set (cond t before (set before slot held)) slot fresh ≡ set before slot fresh
          again true held = refl
          again false held = set-set before slot held fresh

          go : (w : Bool) → wrote ≡ w → cond w (counted_in (sizes_of state) (M (sent ++ chunk)) slot (C sent)) (C sent) ≡ C (sent ++ chunk)
          go true w =
              let d = eqb-false some_rows (rows_come s₃ (length sent)) (not-true _ (sym wrote_is ∙ w)) in
              let n : (some_rows ≡ 0 → ⊥) = λ z. d (omega (arith, z, grown)) in
              again (eqb (rows_come s₃ (length sent)) 0) _ ∙ sym (ap (λ (t : Bool). cond t before (set before slot fresh)) (ne_eqb some_rows 0 n))
          go false w =
              let q : some_rows ≡ rows_come s₃ (length sent) = eqb-true _ _ (not-false _ (sym wrote_is ∙ w)) in
              ap (λ (l : List ℕ). cond (eqb (rows_come s₃ (length sent)) 0) before (counted_in (sizes_of state) l slot before)) (unwritten w)
              ∙ ap (λ (k : ℕ). cond (eqb k 0) before (counted_in (sizes_of state) (M (sent ++ chunk)) slot before)) (sym q)

      fed_on : fill_feed (S sent) (M sent) chunk ≡ (reply 0 (S (sent ++ chunk)), M (sent ++ chunk))
      unfolding fill_feed
      fed_on =
          on_fill_lem sent g (λ f. feeding b₃ h₃ s₃ f chunk) (chunk_writes s₃) (feeds chunk) {r = taken_in} chunk_is
          ∙ ap
          (λ (c : List Summary). (reply 0 (with_summaries (with_fill state (fill_of s₃ slot (sent ++ chunk))) c), M (sent ++ chunk)))
          (ap (λ (k : ℕ). cond wrote (counted_in (sizes_of state) (M (sent ++ chunk)) k (C sent)) (C sent)) (filled_slot slot low₃ its_raw s₃ sent)
          ∙ counted_next)

    fed_here : (chunk : List ℕ) → Bytes chunk → begins state (sent ++ chunk) ≡ true → Here (sent ++ chunk)
    fed_here chunk new e =
        subst (λ (r : Reply × List ℕ). Going slot low₃ its_raw (sizes_of state) (sent ++ chunk) r.0.state r.1) (fed_on chunk new e)
        (chunk_going slot low₃ its_raw (sizes_of state) z₃ rows₃ g are begun chunk new e)

    -- finish leaves all that, but for the fill; a good file has made every row whole
    module _ (e : good state sent ≡ true) where
      abbrev whole_file : Fed × List ℕ
      whole_file = (fed 0 empty_fill, raw_of b₃ h₃ (read_picture b₃ h₃ s₃ sent))

      finish_is : finishing b₃ h₃ s₃ (fill_of s₃ slot sent) (slot_of b₃ h₃ s₃ sent its_raw) ≡ whole_file
      finish_is =
          finished_so_far b₃ h₃ s₃ z₃.some z₃.narrow z₃.within z₃.small z₃.low slot its_raw rows₃ sent are begun
          ∙ ap (λ (u : Bool). cond u whole_file (ended b₃ h₃ 4)) e

      all_held : M sent ≡ with_picture b₃ h₃ memory slot (picture_in state sent)
      unfolding with_picture
      all_held =
          ap (with_bytes b₃ h₃ memory slot)
          (sym (act_unwritten {fill = fill_of s₃ slot sent} finishes z₃ (slot_of b₃ h₃ s₃ sent its_raw)
          (ap (λ (r : Fed × List ℕ). finish_writes r.0) finish_is))
          ∙ ap (λ (r : Fed × List ℕ). r.1) finish_is)

      all_counted : C sent ≡ counted_in (sizes_of state) (M sent) slot before
      all_counted =
          let is = good_length b₃ h₃ s₃ sent e in
          let rows : rows_come s₃ (length sent) ≡ h₃ = ap (rows_come s₃) is ∙ rows_all h₃ s₃ (omega (arith, z₃.some, z₃.within)) in
          let n : (rows_come s₃ (length sent) ≡ 0 → ⊥) = λ q. absurd (omega (arith, q, rows, z₃.high)) in
          ap (λ (t : Bool). cond t before (counted_in (sizes_of state) (M sent) slot before)) (ne_eqb (rows_come s₃ (length sent)) 0 n)

      finished_on : fill_finish (S sent) (M sent) ≡ drawn_to (with_fill state empty_fill) slot (with_picture b₃ h₃ memory slot (picture_in state sent))
      unfolding fill_finish with_picture
      finished_on =
          on_fill_lem sent g (λ f. finishing b₃ h₃ s₃ f) (λ f. finish_writes) finishes {r = whole_file} finish_is
          ∙ ap
          (λ (c : List Summary).
          (reply 0 (with_summaries (with_fill state empty_fill) c), with_bytes b₃ h₃ memory slot (raw_of b₃ h₃ (read_picture b₃ h₃ s₃ sent))))
          (all_counted ∙ ap (λ (l : List ℕ). counted_in (sizes_of state) l slot before) all_held)

  -- the chunks one after the other
  all_fed : (chunks : List (List ℕ)) (sent : List ℕ) → Here sent → Bytes sent → Bytes (sent_by (map feed_fill chunks))
      → begins state (sent ++ sent_by (map feed_fill chunks)) ≡ true
      → (state_after (S sent) (M sent) (map feed_fill chunks) ≡ S (sent ++ sent_by (map feed_fill chunks)))
      × (memory_after (S sent) (M sent) (map feed_fill chunks) ≡ M (sent ++ sent_by (map feed_fill chunks)))
      × Here (sent ++ sent_by (map feed_fill chunks))
  all_fed [] sent g are new e = rw (append-nil sent) (refl, refl, g)
  all_fed (chunk ∷ chunks) sent g are new e =
      let rest : List ℕ = sent_by (map feed_fill chunks) in
      let joined : (sent ++ chunk) ++ rest ≡ sent ++ (chunk ++ rest) = append_assoc sent chunk rest in
      let here = begins_front sent (chunk ++ rest) b₃ h₃ s₃ e in
      let now = begins_front (sent ++ chunk) rest b₃ h₃ s₃ (ap (begins_good b₃ h₃ s₃) joined ∙ e) in
      let first = bytes_front chunk rest new in
      let is = fed_on sent g are here chunk first now in
      let after =
      all_fed chunks (sent ++ chunk) (fed_here sent g are here chunk first now) (bytes_append sent chunk are first) (bytes_back chunk rest new)
      (ap (begins_good b₃ h₃ s₃) joined ∙ e) in (
        ap (λ (r : Reply × List ℕ). state_after r.0.state r.1 (map feed_fill chunks)) is ∙ after.0 ∙ ap S joined,
        ap (λ (r : Reply × List ℕ). memory_after r.0.state r.1 (map feed_fill chunks)) is ∙ after.1 ∙ ap M joined,
        subst Here joined after.2,
      )

  -- the begin
  none_counted : C [] ≡ before
  none_counted = rw (zero-div s₃)

  memory_0 : memory ≡ M []
  memory_0 =
      sym (with_own b₃ h₃ memory slot inside-memory)
      ∙ ap (with_bytes b₃ h₃ memory slot) (sym (so state memory slot accepted bytes).1)

  state_0 : (fill_begin state (length memory) slot).state ≡ S []
  state_0 =
      ap (λ (r : Reply). r.state) (starts state memory slot accepted bytes).0
      ∙ ap (with_fill state) (so state memory slot accepted bytes).0
      ∙ ap (with_summaries (with_fill state (fill_of s₃ slot []))) (sym none_counted)

  here_0 : Here []
  here_0 =
      subst (λ (l : List ℕ). Going slot low₃ its_raw (sizes_of state) [] (S []) l) memory_0
      (subst (λ (q : State). Going slot low₃ its_raw (sizes_of state) [] q memory) state_0 (begun_going state memory slot accepted bytes))

  -- none was begun before
  none_before : with_fill state empty_fill ≡ state
  none_before =
      let t = starts state memory slot accepted bytes in
      let v = valid-state t.1.valid in
      let none : state.store.fill.slot ≡ 0 = eqb-true state.store.fill.slot 0 (not-false _ t.2.none_filled) in
      let y = z state memory slot accepted bytes in
      ap (with_fill state)
      (sym (none_empty b₃ h₃ s₃ y.some y.narrow y.within y.small y.low state.store.fill v.fill_good none))

  module _ (chunks : List (List ℕ)) (sent : AreBytes (sent_by (map feed_fill chunks))) (fine : good state (sent_by (map feed_fill chunks)) ≡ true) where
    abbrev calls : List Call
    calls = map feed_fill chunks

    fine_begins : begins state (sent_by calls) ≡ true
    fine_begins =
        let y = z state memory slot accepted bytes in
        good-begins b₃ h₃ s₃ y.narrow y.low y.small (sent_by calls) sent fine

    fed_all_lem : (state_after (S []) (M []) calls ≡ S (sent_by calls)) × (memory_after (S []) (M []) calls ≡ M (sent_by calls)) × Here (sent_by calls)
    fed_all_lem = all_fed chunks [] here_0 (λ k. omega arith) sent fine_begins

    -- what the finish leaves
    last : fill_finish (state_after (fill_begin state (length memory) slot).state memory calls)
        (memory_after (fill_begin state (length memory) slot).state memory calls)
        ≡ bitmap_upload state memory slot (sent_by calls)
    last =
        let t = starts state memory slot accepted bytes in
        let from-0 : (P : State → List ℕ → Reply × List ℕ)
        → P (fill_begin state (length memory) slot).state memory ≡ P (S []) (M []) =
        λ P. ap (λ (q : State). P q memory) state_0 ∙ ap (λ (l : List ℕ). P (S []) l) memory_0 in
        from-0 (λ q l. fill_finish (state_after q l calls) (memory_after q l calls))
        ∙ ap (λ (q : State). fill_finish q (memory_after (S []) (M []) calls)) fed_all_lem.0
        ∙ ap (λ (l : List ℕ). fill_finish (S (sent_by calls)) l) fed_all_lem.1
        ∙ finished_on (sent_by calls) fed_all_lem.2 sent fine_begins fine
        ∙ ap (λ (q : State). drawn_to q slot (with_picture b₃ h₃ memory slot (picture_in state (sent_by calls)))) none_before
        ∙ sym (uploads state memory slot (sent_by calls) t.1 t.2.upload fine)

pub fills_as_whole : FillsAsWhole
fills_as_whole state memory slot b chunks sent fine =
    let from : State = (fill_begin state (length memory) slot).state in
    let calls = map feed_fill chunks in
    let is = last state memory slot b.accepted b.memory_bytes chunks sent fine in (
      state-append from memory calls (finish_fill ∷ []) ∙ ap (λ (r : Reply × List ℕ). r.0.state) is,
      memory-append from memory calls (finish_fill ∷ []) ∙ ap (λ (r : Reply × List ℕ). r.1) is,
    )
