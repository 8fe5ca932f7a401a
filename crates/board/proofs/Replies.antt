-- What each call replies, by its number.
-- Assumes nothing.
use mathlib.Core.Path.{◌≡◌, refl, sym, ap, ◌∙◌}
use mathlib.Core.Bool.{Bool, true, false, cond}
use mathlib.Core.List.{List, [], ◌∷◌, ◌++◌}
use Prim.Native.Nat.{ℕ, ◌-◌, ◌≤◌, ◌<◌}
use native.Mathlib.Omega.{arith}
use borrow.Author.Tests.{ltb-true, ne_eqb, not-false}
use lib.Dec.{eqb, ltb}
use lib.ListN.{length, get_or, replicate}
use Rattle.refusal.specs.Numbers.{number_of}
use Rattle.refusal.specs.declared.Refusal.{Refusal}
use Rattle.refusal.proofs.Numbers.{number_some}
use Rattle.lists.specs.Rules.{Case, case, first_of}
use Rattle.lists.proofs.Rules.{None, past, and_left, and_right, numbered, taken, some_number, none_of, some_append, none_append}
use Rattle.panel.specs.Panels.{Sizes}
use Rattle.settings.specs.Settings.{settings_good, longest_file}
use Rattle.settings.proofs.Accepted.{good_short}
use Rattle.picture.specs.Regions.{region_cases}
use Rattle.summary.specs.Summaries.{empty_summary}
use Rattle.summary.specs.declared.Summary.{Summary}
use Rattle.run.specs.Runs.{begun}
use Rattle.run.specs.declared.Run.{Run}
use Rattle.run.specs.declared.Tick.{Tick}
use Rattle.run.specs.declared.Phase.{Phase}
use Rattle.run.specs.declared.Phase.TheVariants.{Abandoned, Running}
use Rattle.poll.specs.HandOut.{outcome}
use Rattle.poll.specs.declared.Answer.{Answer}
use Rattle.poll.specs.declared.Answer.TheVariants.{Refused}
use Rattle.poll.specs.declared.Handed.{Handed}
use Rattle.fill.specs.Fills.{begun_fill}
use Rattle.fill_calls.specs.Calls.{feeding, finishing, cancelling}
use Rattle.fill.specs.declared.Fill.{Fill}
use Rattle.fill_calls.specs.declared.Fed.{Fed}
use Rattle.slots.specs.Slots.{region_drawn, bitmap_cases, bitmap_drawn, counted_in, on_slot, chunk_writes, finish_writes, bitmap_written}
use Rattle.slots.specs.Facts.{bitmap_placed, region_placed}
use Rattle.store.specs.Store.{set_phase, set_fill, set_summaries}
use Rattle.store.specs.Refusals.{open_cases}
use Rattle.store.specs.declared.Store.{Store}
use Rattle.board.specs.State.{sizes_of, with_store, with_phase, with_fill, store_cases, empty_state, opened_state}
use Rattle.board.specs.Calls.{reply, opening, counted, upload_cases, drawn_to, region_upload, bitmap_upload, begin_cases, fill_begin, fill_cases, fed_reply, on_fill, fill_feed, fill_finish, fill_cancel, start_cases, starting, abandon_cases, abandoning, polling, summaries_after, in_state, poll_phase, polled, write_cases, bitmap_write, summary_cases, summarised, slot_summary}
use Rattle.board.specs.Facts.{left_by}
use Rattle.board.specs.declared.State.{State}
use Rattle.board.specs.declared.Reply.{Reply}
use Rattle.board.specs.declared.runs.Left.{Left}

-- no refusal has the number 0
pub some_refused : (r : Refusal) → number_of r ≡ 0 → ⊥
some_refused r z = omega (arith, number_some r)

-- ---- opening

module _ (file : List ℕ) (n : ℕ) (memory : List ℕ) {r : ℕ} (is : r ≡ first_of (open_cases file n (length memory)) (λ n. n) 0) where
  pub open_refused : {state : State} → state ≡ empty_state → (r ≡ 0 → ⊥) → (reply r state, memory) ≡ opening file n memory
  unfolding opening
  open_refused e d =
      ap (λ (s : State). (reply r s, memory)) e
      ∙ some_number (open_cases file n (length memory)) (λ number. (reply number empty_state, memory))
      (reply 0 (opened_state file n), replicate (length memory) 0xFF) is d

  module _ (z : r ≡ 0) where
    free : None (open_cases file n (length memory))
    free = none_of (open_cases file n (length memory)) refl is z

    pub open_short : length file ≤ longest_file
    open_short = good_short file (good free) where
      good : None (open_cases file n (length memory)) → settings_good file ≡ true
      good (past e rest) = not-false (settings_good file) e

    pub open_accepted : {state : State} {after : List ℕ} → state ≡ opened_state file n
        → after ≡ replicate (length memory) 0xFF → (reply 0 state, after) ≡ opening file n memory
    unfolding opening
    open_accepted e f =
        rw (e, f)
        (sym
        (taken (open_cases file n (length memory)) (λ number. (reply number empty_state, memory))
        (reply 0 (opened_state file n), replicate (length memory) 0xFF) free))

-- ---- uploads

-- one more thing done to every answer, where it is known what is done to a refusal
first_numbered : {A B : Type 0} (g : A → B) (cs : List Case) → numbered cs ≡ true → (refused : ℕ → A) (refused' : ℕ → B) (accepted : A)
    → ((n : ℕ) → eqb n 0 ≡ false → g (refused n) ≡ refused' n) → g (first_of cs refused accepted) ≡ first_of cs refused' (g accepted)
first_numbered g [] p refused refused' accepted same = refl
first_numbered g (case true n ∷ cs) p refused refused' accepted same =
    let some : 0 < n = ltb-true 0 n (and_left (ltb 0 n) (numbered cs) p) in
    same n (ne_eqb n 0 (λ z. absurd (omega arith)))
first_numbered g (case false n ∷ cs) p refused refused' accepted same =
    first_numbered g cs (and_right (ltb 0 n) (numbered cs) p) refused refused' accepted same

-- the reply to a picture that was drawn into a slot, or to one that was refused with a number
abbrev pub drawn_reply : (shape : Sizes) → State → (memory : List ℕ) (slot number : ℕ) → Reply
drawn_reply shape state memory slot number = reply number (cond (eqb number 0) (counted shape state memory slot) state)

pub drawn_refused : (shape : Sizes) (state : State) (memory : List ℕ) (slot number : ℕ) → (number ≡ 0 → ⊥)
    → reply number state ≡ drawn_reply shape state memory slot number
drawn_refused shape state memory slot number d = rw (ne_eqb number 0 d)

module _ (state : State) (memory : List ℕ) (slot : ℕ) {r : ℕ}
    (is : r ≡ first_of (upload_cases state (length memory) slot) (λ n. n) 0) where
  -- the reply to a number and a memory
  abbrev replied : ℕ × List ℕ → Reply × List ℕ
  replied p = (drawn_reply (sizes_of state) state p.1 slot p.0, p.1)

  -- what was put into the slot of these cases, and its number, is the reply of both
  placed : (more : List Case) → numbered more ≡ true → (after : List ℕ) → r ≡ 0 → {shape : Sizes} → shape ≡ sizes_of state
      → {n : ℕ} {left : List ℕ} {given : Reply} → given ≡ drawn_reply shape state left slot n
      → ◌≡◌ {A = ℕ × List ℕ} (n, left) (first_of more (λ k. (k, memory)) (0, after))
      → ◌≡◌ {A = Reply × List ℕ} (given, left)
      (first_of (upload_cases state (length memory) slot ++ more) (λ k. (reply k state, memory)) (drawn_to state slot after))
  placed more p after z sizes {n} {left} q e =
      let cases = upload_cases state (length memory) slot in
      ap (λ (g : Reply). (g, left)) q
      ∙ ap (λ (s : Sizes). (drawn_reply s state left slot n, left)) sizes
      ∙ ap replied e
      ∙ first_numbered replied more p (λ k. (k, memory)) (λ k. (reply k state, memory)) (0, after) (λ k d. rw d)
      ∙ none_append cases more (λ k. (reply k state, memory)) (drawn_to state slot after) (none_of cases refl is z)

  module _ (file : List ℕ) where
    pub bitmap_upload_refused : (r ≡ 0 → ⊥) → (reply r state, memory) ≡ bitmap_upload state memory slot file
    unfolding bitmap_upload
    bitmap_upload_refused =
        some_append (upload_cases state (length memory) slot) (bitmap_cases (sizes_of state) file) (λ n. (reply n state, memory))
        (drawn_to state slot (bitmap_drawn (sizes_of state) memory slot file)) is

    pub bitmap_uploaded : r ≡ 0 → {shape : Sizes} → shape ≡ sizes_of state → {n : ℕ} {after : List ℕ} {given : Reply}
        → given ≡ drawn_reply shape state after slot n → (n, after) ≡ bitmap_placed shape memory slot file
        → (given, after) ≡ bitmap_upload state memory slot file
    unfolding bitmap_upload
    bitmap_uploaded z sizes q e =
        placed (bitmap_cases (sizes_of state) file) refl (bitmap_drawn (sizes_of state) memory slot file) z sizes q
        (e ∙ ap (λ (s : Sizes). bitmap_placed s memory slot file) sizes)

  module _ (x y width height : ℕ) (payload : List ℕ) where
    abbrev region : List Case
    region = region_cases (sizes_of state).bytes (sizes_of state).rows x y width height payload

    pub region_upload_refused : (r ≡ 0 → ⊥) → (reply r state, memory) ≡ region_upload state memory slot x y width height payload
    unfolding region_upload
    region_upload_refused =
        some_append (upload_cases state (length memory) slot) region (λ n. (reply n state, memory))
        (drawn_to state slot (region_drawn (sizes_of state) memory slot x y width height payload)) is

    pub region_uploaded : r ≡ 0 → {shape : Sizes} → shape ≡ sizes_of state → {n : ℕ} {after : List ℕ} {given : Reply}
        → given ≡ drawn_reply shape state after slot n → (n, after) ≡ region_placed shape memory slot x y width height payload
        → (given, after) ≡ region_upload state memory slot x y width height payload
    unfolding region_upload
    region_uploaded z sizes q e =
        placed region refl (region_drawn (sizes_of state) memory slot x y width height payload) z sizes q
        (e ∙ ap (λ (s : Sizes). region_placed s memory slot x y width height payload) sizes)

-- ---- fills

module _ (state : State) (m slot : ℕ) {r : ℕ} (is : r ≡ first_of (begin_cases state m slot) (λ n. n) 0) where
  pub begin_refused : (r ≡ 0 → ⊥) → reply r state ≡ fill_begin state m slot
  unfolding fill_begin
  begin_refused =
      some_number (begin_cases state m slot) (λ number. reply number state) (reply 0 (with_fill state (begun_fill slot))) is

  pub begin_accepted : {fill : Fill} {store : Store} {after : State} → fill ≡ begun_fill slot → store ≡ set_fill state.store fill
      → after ≡ with_store state store → r ≡ 0 → reply 0 after ≡ fill_begin state m slot
  unfolding fill_begin
  begin_accepted e f g z =
      rw (g, f, e)
      (sym
      (taken (begin_cases state m slot) (λ number. reply number state) (reply 0 (with_fill state (begun_fill slot)))
      (none_of (begin_cases state m slot) refl is z)))

-- the reply to what was done to the slot being filled: where it was not written, and where it was
module _ (shape : Sizes) (state : State) (memory : List ℕ) (fed : Fed) {filled : Store} (e : filled ≡ set_fill state.store fed.fill) where
  pub fed_unwritten : (wrote : Bool) → wrote ≡ false → {after : State} → after ≡ with_store state filled
      → reply fed.number after ≡ fed_reply shape state wrote memory fed
  fed_unwritten wrote w f = rw (w, f, e)

  pub fed_written : (wrote : Bool) → wrote ≡ true → {counts : List Summary}
      → counts ≡ counted_in shape memory state.store.fill.slot filled.summaries
      → {store : Store} → store ≡ set_summaries filled counts → {after : State} → after ≡ with_store state store
      → reply fed.number after ≡ fed_reply shape state wrote memory fed
  fed_written wrote w g f h = rw (w, h, f, g, e)

module _ (state : State) (memory : List ℕ) {r : ℕ} (is : r ≡ first_of (fill_cases state (length memory)) (λ n. n) 0) where
  -- the reply to what is done to the slot being filled
  abbrev fed_on : (act : List ℕ → Fed × List ℕ) (writes : Fed → Bool) → Reply × List ℕ
  fed_on act writes =
      let d = on_slot (sizes_of state) memory state.store.fill.slot act in
      (fed_reply (sizes_of state) state (writes d.0) d.1 d.0, d.1)

  refused_fill : (act : List ℕ → Fed × List ℕ) (writes : Fed → Bool) → (r ≡ 0 → ⊥)
      → (reply r state, memory) ≡ on_fill state memory act writes
  refused_fill act writes =
      some_number (fill_cases state (length memory)) (λ number. (reply number state, memory)) (fed_on act writes) is

  done_fill : (act : Sizes → List ℕ → Fed × List ℕ) (writes : Sizes → Fed → Bool) → r ≡ 0 → {shape : Sizes} → shape ≡ sizes_of state
      → {fed : Fed} {after : List ℕ} {wrote : Bool} {given : Reply} → wrote ≡ writes shape fed
      → given ≡ fed_reply shape state wrote after fed
      → (fed, after) ≡ on_slot shape memory state.store.fill.slot (act shape)
      → (given, after) ≡ on_fill state memory (act (sizes_of state)) (writes (sizes_of state))
  done_fill act writes z {shape} sizes {fed} {after} {wrote} {given} w e f =
      let g : ◌≡◌ {A = Fed × List ℕ} (fed, after) (on_slot (sizes_of state) memory state.store.fill.slot (act (sizes_of state))) =
      f ∙ ap (λ (s : Sizes). on_slot s memory state.store.fill.slot (act s)) sizes in
      ap (λ (q : Reply). (q, after)) (e ∙ ap (λ (t : Bool). fed_reply shape state t after fed) w)
      ∙ ap (λ (s : Sizes). (fed_reply s state (writes s fed) after fed, after)) sizes
      ∙ ap (λ (d : Fed × List ℕ). (fed_reply (sizes_of state) state (writes (sizes_of state) d.0) d.1 d.0, d.1)) g
      ∙ sym
      (taken (fill_cases state (length memory)) (λ number. (reply number state, memory)) (fed_on (act (sizes_of state)) (writes (sizes_of state)))
      (none_of (fill_cases state (length memory)) refl is z))

  pub feed_refused : (chunk : List ℕ) → (r ≡ 0 → ⊥) → (reply r state, memory) ≡ fill_feed state memory chunk
  unfolding fill_feed
  feed_refused chunk =
      refused_fill (feeding (sizes_of state).bytes (sizes_of state).rows (sizes_of state).stride state.store.fill chunk)
      (chunk_writes (sizes_of state).stride state.store.fill)

  pub finish_refused : (r ≡ 0 → ⊥) → (reply r state, memory) ≡ fill_finish state memory
  unfolding fill_finish
  finish_refused =
      refused_fill (finishing (sizes_of state).bytes (sizes_of state).rows (sizes_of state).stride state.store.fill) finish_writes

  pub cancel_refused : (r ≡ 0 → ⊥) → (reply r state, memory) ≡ fill_cancel state memory
  unfolding fill_cancel
  cancel_refused = refused_fill (λ raw. cancelling (sizes_of state).bytes (sizes_of state).rows) (λ fed. true)

  module _ (z : r ≡ 0) {shape : Sizes} (sizes : shape ≡ sizes_of state) {fed : Fed} {after : List ℕ} {wrote : Bool} {given : Reply}
      (e : given ≡ fed_reply shape state wrote after fed) where
    pub fed_replied : (chunk : List ℕ) → wrote ≡ chunk_writes shape.stride state.store.fill fed
        → (fed, after)
        ≡ on_slot shape memory state.store.fill.slot (feeding shape.bytes shape.rows shape.stride state.store.fill chunk)
        → (given, after) ≡ fill_feed state memory chunk
    unfolding fill_feed
    fed_replied chunk w =
        done_fill (λ s. feeding s.bytes s.rows s.stride state.store.fill chunk) (λ s. chunk_writes s.stride state.store.fill)
        z sizes w e

    pub finish_replied : wrote ≡ finish_writes fed
        → (fed, after)
        ≡ on_slot shape memory state.store.fill.slot (finishing shape.bytes shape.rows shape.stride state.store.fill)
        → (given, after) ≡ fill_finish state memory
    unfolding fill_finish
    finish_replied w =
        done_fill (λ s. finishing s.bytes s.rows s.stride state.store.fill) (λ s. finish_writes) z sizes w e

    pub cancel_replied : wrote ≡ true
        → (fed, after) ≡ on_slot shape memory state.store.fill.slot (λ raw. cancelling shape.bytes shape.rows)
        → (given, after) ≡ fill_cancel state memory
    unfolding fill_cancel
    cancel_replied w = done_fill (λ s raw. cancelling s.bytes s.rows) (λ s fed. true) z sizes w e

-- ---- start and abandon

module _ (state : State) (m slot : ℕ) (tick : Tick) {r : ℕ} (is : r ≡ first_of (start_cases state m slot) (λ n. n) 0) where
  pub start-refused : (r ≡ 0 → ⊥) → reply r state ≡ starting state m slot tick
  unfolding starting
  start-refused =
      some_number (start_cases state m slot) (λ number. reply number state) (reply 0 (with_phase state (Running (begun slot tick)))) is

  pub start-accepted : {run : Run} {store : Store} {after : State} → run ≡ begun slot tick → store ≡ set_phase state.store (Running run)
      → after ≡ with_store state store → r ≡ 0
      → reply 0 after ≡ starting state m slot tick
  unfolding starting
  start-accepted e f g z =
      rw (g, f, e)
      (sym
      (taken (start_cases state m slot) (λ number. reply number state) (reply 0 (with_phase state (Running (begun slot tick))))
      (none_of (start_cases state m slot) refl is z)))

module _ (state : State) (m : ℕ) {r : ℕ} (is : r ≡ first_of (abandon_cases state m) (λ n. n) 0) where
  pub abandon-refused : (r ≡ 0 → ⊥) → reply r state ≡ abandoning state m
  unfolding abandoning
  abandon-refused = some_number (abandon_cases state m) (λ number. reply number state) (reply 0 (with_phase state Abandoned)) is

  pub abandon-accepted : {store : Store} {after : State} → store ≡ set_phase state.store Abandoned → after ≡ with_store state store → r ≡ 0
      → reply 0 after ≡ abandoning state m
  unfolding abandoning
  abandon-accepted e f z =
      rw (f, e)
      (sym
      (taken (abandon_cases state m) (λ number. reply number state) (reply 0 (with_phase state Abandoned))
      (none_of (abandon_cases state m) refl is z)))

-- ---- the writer

module _ (state : State) (memory : List ℕ) (slot : ℕ) (out : List ℕ) {r : ℕ}
    (is : r ≡ first_of (write_cases state (length memory) slot (length out)) (λ n. n) 0) where
  pub write_refused : (r ≡ 0 → ⊥) → (reply r state, out) ≡ bitmap_write state memory slot out
  unfolding bitmap_write
  write_refused =
      some_number (write_cases state (length memory) slot (length out)) (λ number. (reply number state, out))
      (reply 0 state, bitmap_written (sizes_of state) memory slot out) is

  pub write_accepted : r ≡ 0 → {shape : Sizes} → shape ≡ sizes_of state → {after : List ℕ} → after ≡ bitmap_written shape memory slot out
      → (reply 0 state, after) ≡ bitmap_write state memory slot out
  unfolding bitmap_write
  write_accepted z {shape} sizes e =
      ap (λ (l : List ℕ). (reply 0 state, l)) (e ∙ ap (λ (s : Sizes). bitmap_written s memory slot out) sizes)
      ∙ sym
      (taken (write_cases state (length memory) slot (length out)) (λ number. (reply number state, out))
      (reply 0 state, bitmap_written (sizes_of state) memory slot out)
      (none_of (write_cases state (length memory) slot (length out)) refl is z))

-- ---- polls

module _ (state : State) (tick : Tick) (memory out : List ℕ) {r : ℕ} (is : r ≡ first_of (store_cases state (length memory)) (λ n. n) 0) where
  pub poll-refused : (r ≡ 0 → ⊥) → polling (Refused r) state memory out ≡ polled state tick memory out
  unfolding polled
  poll-refused =
      some_number (store_cases state (length memory)) (λ n. polling (Refused n) state memory out)
      (poll_phase state tick memory out state.store.phase) is

  pub poll_in : r ≡ 0 → (phase : Phase) → state.store.phase ≡ phase → poll_phase state tick memory out phase ≡ polled state tick memory out
  unfolding polled
  poll_in z phase e =
      ap (poll_phase state tick memory out) (sym e)
      ∙ sym
      (taken (store_cases state (length memory)) (λ n. polling (Refused n) state memory out)
      (poll_phase state tick memory out state.store.phase) (none_of (store_cases state (length memory)) refl is z))

-- what a poll of a run leaves of the store, by its answer
pub polled_store : (store : Store) (slot : ℕ) {given known : Answer} → given ≡ known → {after : Store}
    → after ≡ set_summaries store (summaries_after known slot store.summaries)
    → after ≡ set_summaries store (summaries_after given slot store.summaries)
polled_store store slot e f = f ∙ ap (λ (a : Answer). set_summaries store (summaries_after a slot store.summaries)) (sym e)

pub shown_store : (store : Store) {counts shown : List Summary} → counts ≡ shown → {after : Store} → after ≡ set_summaries store counts
    → after ≡ set_summaries store shown
shown_store store e f = rw (f, e)

pub left_by_lem : (store : Store) (slot : ℕ) (handed : Handed) {phased : Store} → phased ≡ set_phase store handed.phase
    → {after : Store} → after ≡ set_summaries phased (summaries_after handed.answer slot phased.summaries)
    → ◌≡◌ {A = Left} (record { answer = handed.answer; store = after }) (left_by store slot handed)
left_by_lem store slot handed e f = rw (f, e)

pub poll_left : (state : State) (slot : ℕ) (handed : Handed) {left : Left} {m o : List ℕ} → left ≡ left_by state.store slot handed
    → polling left.answer (with_store state left.store) m o ≡ in_state state slot (outcome handed.answer handed.phase m o)
poll_left state slot handed {left} {m} {o} e = ap (λ (l : Left). polling l.answer (with_store state l.store) m o) e

-- the whole poll, from that on the state's parts
pub poll-whole : (state : State) (tick : Tick) (memory out : List ℕ) {given : Answer} {after : Store} {next : State} {m o : List ℕ}
    → next ≡ with_store state after → polling given (with_store state after) m o ≡ polled state tick memory out
    → polling given next m o ≡ polled state tick memory out
poll-whole state tick memory out {given} {after} {next} {m} {o} e f = rw e f

-- ---- the summary of a slot

module _ (state : State) (slot : ℕ) {r : ℕ} (is : r ≡ first_of (summary_cases state slot) (λ n. n) 0) where
  pub summary-refused : {told : Summary} → told ≡ empty_summary → (r ≡ 0 → ⊥) → summarised r told state ≡ slot_summary state slot
  unfolding slot_summary
  summary-refused e d =
      ap (λ (s : Summary). summarised r s state) e
      ∙ some_number (summary_cases state slot) (λ number. summarised number empty_summary state)
      (summarised 0 (get_or state.store.summaries slot empty_summary) state) is d

  pub summary-told : {told : Summary} → told ≡ get_or state.store.summaries slot empty_summary → r ≡ 0
      → summarised 0 told state ≡ slot_summary state slot
  unfolding slot_summary
  summary-told e z =
      ap (λ (s : Summary). summarised 0 s state) e
      ∙ sym
      (taken (summary_cases state slot) (λ number. summarised number empty_summary state)
      (summarised 0 (get_or state.store.summaries slot empty_summary) state) (none_of (summary_cases state slot) refl is z))
