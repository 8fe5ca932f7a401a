-- A refused call leaves everything as it was: the state, the picture memory and the output; but 4 of a chunk or of finish ends the fill,
-- as a cancel does.
-- Assumes nothing.
use mathlib.Core.Path.{◌≡◌, refl, sym, ap, ◌∙◌}
use mathlib.Core.Bool.{Bool, true, false, cond, not, false≢true}
use mathlib.Core.List.{List, [], ◌∷◌}
use Prim.Native.Nat.{ℕ, ◌*◌}
use native.Mathlib.Omega.{arith}
use borrow.Author.Tests.{eqb-true, eqb-false}
use lib.Dec.{eqb}
use lib.ListN.{length, set, length-replicate}
use Rattle.lists.specs.Rules.{case, first_of}
use Rattle.lists.proofs.Rules as rules
use Rattle.panel.specs.Panels.{Sizes}
use Rattle.picture.specs.Slots.{picture_of, slot_bytes, with_bytes, slot_picture}
use Rattle.picture.proofs.Slots.{bytes_same}
use Rattle.bitmap.specs.Header.{file_length}
use Rattle.fill.specs.Fills.{empty_fill}
use Rattle.fill.specs.Feeding.{bytes_fed}
use Rattle.fill_calls.specs.Calls.{goes_on, fed, white_slot, ended, feeding, finishing, cancelling}
use Rattle.fill.specs.declared.Fill.{Fill}
use Rattle.fill_calls.specs.declared.Fed.{Fed}
use Rattle.summary.specs.Summaries.{summary_of, empty_summary}
use Rattle.summary.proofs.Kept.{white_summary}
use Rattle.run.specs.declared.Tick.{Tick}
use Rattle.run.specs.declared.Run.{Run}
use Rattle.poll.specs.Answers.{answer_number}
use Rattle.poll.specs.HandOut.{Outcome, outcome, hand_out}
use Rattle.poll.specs.declared.Answer.{Answer}
use Rattle.poll.specs.declared.Answer.TheVariants as answer
use Rattle.slots.specs.Slots.{store_bytes, counted_in, on_slot, chunk_writes, finish_writes}
use Rattle.store.specs.Refusals.{is_filling}
use Rattle.board.specs.State.{file_of, sizes_of, with_fill, with_summaries, state_valid}
use Rattle.board.specs.Calls.{reply, fed_reply, on_fill, fill_feed, fill_finish, fill_cancel}
use Rattle.board.specs.History.{Call, upload_region, upload_bitmap, begin_fill, feed_fill, finish_fill, cancel_fill, start, poll, abandon, write_bitmap, summary, number_given, is_accepted, given_by, out_of, Called, of_reply, call_on}
use Rattle.board.specs.declared.State.{State}
use Rattle.board.specs.declared.Reply.{Reply}
use Rattle.board.proofs.Tests.{Tested, tested}
use Rattle.board.proofs.Filled.{filled_inside}
use Rattle.board.proofs.Effects.{Fills, feeds, finishes, cancels, Effect, refuses, reads, tells, draws, begins, fills, starts, abandons, waits, hands, polled_to, effect}
use Rattle.theorems.specs.Refusals.{Unchanged, breaks_fill, FillBroken}
use Rattle.theorems.specs.Progress.{is_hand_out, answer_in}
use Rattle.theorems.proofs.Handed.{hands_some}

-- what is handed out has number 0
handed-number : (given : Answer) → is_hand_out given ≡ true → eqb (answer_number given) 0 ≡ true
handed-number (answer.Refused n) e = absurd (false≢true e)
handed-number (answer.Write n) e = refl
handed-number (answer.Line n) e = refl
handed-number (answer.Wait ms) e = absurd (false≢true e)
handed-number answer.Done e = refl

polled-accepted : (state : State) (memory : List ℕ) (run : Run) (tick : Tick) (out : List ℕ) (o : Outcome) → is_hand_out (answer_in o) ≡ true
    → is_accepted (given_by (polled_to state memory run tick out o).seen) ≡ true
polled-accepted state memory run tick out (outcome given phase memory' out') e = handed-number given e

-- ---- what the calls of a fill do where its slot is reached: they end the fill before its time, or answer 0

-- one refusal that applies or not
by_one : {A : Type 0} (P : A → Type 0) (test : Bool) (n : ℕ) (refusal : ℕ → A) (accepted : A) → P (refusal n) → P accepted
    → P (first_of (case test n ∷ []) refusal accepted)
by_one P true n refusal accepted p q = p
by_one P false n refusal accepted p q = q

abbrev BreaksOrAccepts : (shape : Sizes) (call : Call) → Fed × List ℕ → Type 0
BreaksOrAccepts shape call r =
    (breaks_fill call r.0.number ≡ true → r ≡ ended shape.bytes shape.rows r.0.number)
    × (breaks_fill call r.0.number ≡ false → r.0.number ≡ 0)

acts : {shape : Sizes} {fill : Fill} {call : Call} {act : List ℕ → Fed × List ℕ} {writes : Fed → Bool} → Fills shape fill call act writes → (raw : List ℕ)
    → BreaksOrAccepts shape call (act raw)
unfolding feeding finishing cancelling
acts {shape} {fill} {call} (feeds chunk) raw =
    let fed_on = bytes_fed shape.bytes shape.rows shape.stride (fill, raw) chunk in
    by_one (BreaksOrAccepts shape call) (not (goes_on shape.bytes shape.rows shape.stride fill chunk)) 4
    (ended shape.bytes shape.rows) (fed 0 fed_on.0, fed_on.1)
    (λ e. refl, λ e. absurd (eqb-false 4 4 e refl))
    (λ e. absurd (omega (arith, eqb-true 0 4 e)), λ e. refl)
acts {shape} {fill} {call} finishes raw =
    by_one (BreaksOrAccepts shape call) (not (eqb fill.came (file_length shape.rows shape.stride))) 4
    (ended shape.bytes shape.rows) (fed 0 empty_fill, raw)
    (λ e. refl, λ e. absurd (eqb-false 4 4 e refl))
    (λ e. absurd (omega (arith, eqb-true 0 4 e)), λ e. refl)
acts cancels raw = (λ e. refl, λ e. refl)

-- the fresh count of a slot that was made white
white_count : (state : State) (memory : List ℕ) → Tested state (length memory)
    → summary_of (sizes_of state).bytes (sizes_of state).rows
    (slot_picture (sizes_of state).bytes (sizes_of state).rows
    (with_bytes (sizes_of state).bytes (sizes_of state).rows memory state.store.fill.slot
    (white_slot (sizes_of state).bytes (sizes_of state).rows))
    state.store.fill.slot)
    ≡ empty_summary
unfolding slot_picture
white_count state memory t =
    let b = (sizes_of state).bytes in
    let h = (sizes_of state).rows in
    let slot = state.store.fill.slot in
    let white : List ℕ = white_slot b h in
    ap (λ (l : List ℕ). summary_of b h (picture_of b h l))
    (bytes_same b h memory slot (filled_inside state memory t) white (length-replicate {A = ℕ} (h * b) 0xFF))
    ∙ white_summary b h

module _ (state : State) (memory : List ℕ) where
  abbrev b : ℕ
  b = (sizes_of state).bytes

  abbrev h : ℕ
  h = (sizes_of state).rows

  -- ---- refusals

  unchanged : {call : Call} {called : Called} → Effect state memory call called → is_accepted (given_by called.seen) ≡ false
      → breaks_fill call (number_given (given_by called.seen)) ≡ false → Unchanged state memory call called
  unchanged (refuses call given e) f g = record { state_same = refl; memory_same = refl; out_same = refl }
  unchanged (reads call out' e t) f g = absurd (false≢true (sym f))
  unchanged (tells slot held t) f g = absurd (false≢true (sym f))
  unchanged (draws call slot picture e t may long) f g = absurd (false≢true (sym f))
  unchanged (begins slot t may) f g = absurd (false≢true (sym f))
  unchanged (fills call act writes kind t is) f g = absurd (eqb-false _ 0 f ((acts kind _).1 g))
  unchanged (starts slot tick t may) f g = absurd (false≢true (sym f))
  unchanged (abandons t is) f g = absurd (false≢true (sym f))
  unchanged (waits tick out run moment at before) f g = absurd (false≢true (sym f))
  unchanged (hands tick out run moment at due) f g =
      absurd (false≢true
      (sym f
      ∙ polled-accepted state memory run tick out (hand_out (file_of state) run tick moment memory out run.next)
      (hands_some (file_of state) run tick moment memory out run.next)))

  -- a number other than 0 leaves the state, the memory and the output as they were, where it is not 4 of a fill
  pub refused_same : (call : Call) → is_accepted (given_by (call_on state memory call).seen) ≡ false
      → breaks_fill call (number_given (given_by (call_on state memory call).seen)) ≡ false
      → Unchanged state memory call (call_on state memory call)
  refused_same call = unchanged (effect state memory call)

  -- ---- fills that end before their time

  -- what is given back and left where the slot is reached
  abbrev filled_reply : (act : List ℕ → Fed × List ℕ) (writes : Fed → Bool) → Reply × List ℕ
  filled_reply act writes =
      let d = on_slot (sizes_of state) memory state.store.fill.slot act in
      (fed_reply (sizes_of state) state (writes d.0) d.1 d.0, d.1)

  -- the refusals before a fill's own
  by_cases_of_fill : (P : Reply × List ℕ → Type 0) (act : List ℕ → Fed × List ℕ) (writes : Fed → Bool) → P (reply 13 state, memory) → P (reply 1 state, memory)
      → P (reply 17 state, memory)
      → (Tested state (length memory) → P (filled_reply act writes)) → P (on_fill state memory act writes)
  by_cases_of_fill P act writes p₁₃ p₁ p₁₇ q =
      go (not (state_valid state)) (not (eqb (length memory) (store_bytes (sizes_of state) state.store.slots)))
      (not (is_filling state.store.fill)) refl refl
    where
      go : (t u v : Bool) → not (state_valid state) ≡ t → not (eqb (length memory) (store_bytes (sizes_of state) state.store.slots)) ≡ u
          → P (first_of (case t 13 ∷ case u 1 ∷ case v 17 ∷ []) (λ number. (reply number state, memory)) (filled_reply act writes))
      go true u v e f = p₁₃
      go false true v e f = p₁
      go false false true e f = p₁₇
      go false false false e f = q (tested state (length memory) (rules.past e (rules.past f rules.none)))

  -- an ended fill leaves a white slot, which is written
  ended-reply : (call : Call) (act : List ℕ → Fed × List ℕ) (writes : Fed → Bool) → Fills (sizes_of state) state.store.fill call act writes
      → Tested state (length memory) → out_of call ≡ [] → (n : ℕ)
      → act (slot_bytes b h memory state.store.fill.slot) ≡ ended b h n → writes (fed n empty_fill) ≡ true
      → FillBroken state memory call (of_reply call memory (filled_reply act writes).0 (filled_reply act writes).1 [])
  ended-reply call act writes kind t none n is wrote =
      let slot = state.store.fill.slot in
      let white : List ℕ = with_bytes b h memory slot (white_slot b h) in
      let summaries = state.store.summaries in
      let counts : (c : Bool) → c ≡ true
      → cond c (counted_in (sizes_of state) white slot summaries) summaries ≡ set summaries slot empty_summary =
      λ c e. rw e (ap (set summaries slot) (white_count state memory t)) in
      record {
        state-is =
            ap
            (λ (r : Fed × List ℕ).
            (fed_reply (sizes_of state) state (writes r.0) (with_bytes b h memory slot r.1) r.0).state)
            is
            ∙ ap (with_summaries (with_fill state empty_fill)) (counts (writes (fed n empty_fill)) wrote);
        memory-is = ap (λ (r : Fed × List ℕ). with_bytes b h memory slot r.1) is;
        out_same = sym none;
      }

  ends : (call : Call) (act : List ℕ → Fed × List ℕ) (writes : Fed → Bool) → Fills (sizes_of state) state.store.fill call act writes
      → out_of call ≡ [] → breaks_fill call 13 ≡ false → breaks_fill call 1 ≡ false → breaks_fill call 17 ≡ false
      → ((n : ℕ) → breaks_fill call n ≡ true → writes (fed n empty_fill) ≡ true)
      → breaks_fill call (on_fill state memory act writes).0.number ≡ true
      → FillBroken state memory call (of_reply call memory (on_fill state memory act writes).0 (on_fill state memory act writes).1 [])
  ends call act writes kind none n₁₃ n₁ n₁₇ wrote =
      by_cases_of_fill
      (λ r. breaks_fill call r.0.number ≡ true → FillBroken state memory call (of_reply call memory r.0 r.1 [])) act writes
      (λ e. absurd (false≢true (sym n₁₃ ∙ e))) (λ e. absurd (false≢true (sym n₁ ∙ e))) (λ e. absurd (false≢true (sym n₁₇ ∙ e)))
      (λ t e.
      let raw = slot_bytes b h memory state.store.fill.slot in
      ended-reply call act writes kind t none _ ((acts kind raw).0 e) (wrote _ e))

  -- where a call ends a fill before its time, none is begun and its slot is all white
  pub fill_broken : (call : Call) → breaks_fill call (number_given (given_by (call_on state memory call).seen)) ≡ true
      → FillBroken state memory call (call_on state memory call)
  unfolding fill_feed fill_finish fill_cancel
  fill_broken (upload_region slot x y width height payload) e = absurd (false≢true e)
  fill_broken (upload_bitmap slot file) e = absurd (false≢true e)
  fill_broken (begin_fill slot) e = absurd (false≢true e)
  fill_broken (feed_fill chunk) e =
      ends (feed_fill chunk) (feeding b h (sizes_of state).stride state.store.fill chunk)
      (chunk_writes (sizes_of state).stride state.store.fill) (feeds chunk) refl refl refl refl
      (λ n is. rw (eqb-true n 4 is)) e
  fill_broken finish_fill e =
      ends finish_fill (finishing b h (sizes_of state).stride state.store.fill) finish_writes finishes refl refl refl refl
      (λ n is. rw (eqb-true n 4 is)) e
  fill_broken cancel_fill e = ends cancel_fill (λ raw. cancelling b h) (λ fed. true) cancels refl refl refl refl (λ n is. refl) e
  fill_broken (start slot tick) e = absurd (false≢true e)
  fill_broken (poll tick out) e = absurd (false≢true e)
  fill_broken abandon e = absurd (false≢true e)
  fill_broken (write_bitmap slot out) e = absurd (false≢true e)
  fill_broken (summary slot) e = absurd (false≢true e)
