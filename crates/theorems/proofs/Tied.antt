-- The theorems once more, over calls that keep the contracts as the checker makes them from the source, one call or a chain of them. A
-- contract that is weakened in src/ no longer gives them.
-- Assumes nothing.
use mathlib.Core.Path.{◌≡◌, refl, sym, ap, subst, ◌∙◌}
use mathlib.Core.Bool.{true, false}
use mathlib.Core.List.{List, [], ◌∷◌, ◌++◌, map}
use Prim.Native.Nat.{ℕ, ◌≤◌}
use borrow.Author.Tests.{eqb-false}
use lib.Dec.{eqb}
use lib.ListN.{length}
use Rattle.lists.specs.Lists.{overlay}
use Rattle.lists.specs.Rules.{first_of}
use Rattle.lists.proofs.Rules.{by_cases}
use Rattle.settings.specs.Settings.{panel_of, row_bytes_in, rows_in, stride_in}
use Rattle.picture.specs.Slots.{slot_picture}
use Rattle.bitmap.specs.Header.{file_length}
use Rattle.bitmap_codec.specs.Codec.{normal_form}
use Rattle.summary.specs.Summaries.{summary_of}
use Rattle.store.specs.Refusals.{open_cases}
use Rattle.board.specs.State.{file_of, sizes_of, state_valid, empty_state}
use Rattle.board.specs.Calls.{reply, opening, upload_cases, starting, bitmap_upload, bitmap_write, summarised, slot_summary}
use Rattle.board.specs.History.{Call, upload_bitmap, feed_fill, finish_fill, Event, number_given, is_accepted, given_by, out_of, Called, call_on, events_of, memory_after}
use Rattle.board.specs.Chains.{Parts, Chain, finished, more, calls_of, end_of, In}
use Rattle.board.specs.declared.State.{State}
use Rattle.board.specs.declared.Reply.{Reply}
use Rattle.board.proofs.Tied.{Open, Start, UploadBitmap, WriteBitmap, start_parts, bitmap_parts, write_parts, started_slot, started_tick, uploaded_slot, uploaded_file, written_slot, opened_file, opened_slots, opened_memory, lent_memory, Step, kept, listed, SummaryCall, summary_state, summary_slot}
use Rattle.theorems.specs.Order.{Thing, things_of_run, things_in}
use Rattle.theorems.specs.Progress.{AllGo, no_turns, state_after, hand_outs}
use Rattle.theorems.specs.Timing.{no_run, a_run, watch_at_start, AllTimely}
use Rattle.theorems.specs.Past.{observed_in}
use Rattle.theorems.specs.Frames.{run_put, was_done, Shows}
use Rattle.bitmap_prefix.specs.Meaning.{AreBytes}
use Rattle.theorems.specs.Copies.{file_left, Carried}
use Rattle.theorems.specs.Fills.{sent_by, made_after, good, white_picture, Begun, Filling, SlotAfter, Filled, Earns4, from_chunk, from_finish, the_begin, after_begin, FillsHoldMade, BadFilesEarn4Made, FillsAsWholeMade}
use Rattle.theorems.specs.Summaries.{Summarises}
use Rattle.theorems.specs.Refusals.{Unchanged, breaks_fill, FillBroken}
use Rattle.theorems.proofs.Refusals.{refused_same, fill_broken}
use Rattle.theorems.proofs.Invalid.{invalid_refused}
use Rattle.theorems.proofs.Kept.{valid_kept, opened_valid}
use Rattle.theorems.proofs.Progress.{run_in_order}
use Rattle.theorems.proofs.Ends.{all_done}
use Rattle.theorems.proofs.Timing.{history_on_time, run_keeps_time, state_on_time}
use Rattle.theorems.proofs.Frames.{equal_frames}
use Rattle.theorems.proofs.Fills.{state-append, memory-append, fills_hold, bad_files_earn_4, fills_as_whole}
use Rattle.theorems.proofs.Summaries.{summaries_hold}
use Rattle.theorems.proofs.RoundTrips.{upload_write, upload_normal, file_carries}

-- ---- one call

-- what holds of the call by its definition holds of what it left
by_contract : {p : Parts} → Step p → (P : Called → Type 0) → P (call_on p.state p.memory p.call) → P p.left
by_contract step P = subst P (sym (kept step))

-- an opening that was refused gave back the empty state, and left the memory
pub record RefusedOpening (o : Open) : Type 0 where
  pub empty : o.result.state ≡ empty_state
  pub memory_same : opened_memory o ≡ lent_memory o

refused-opening : (file : List ℕ) (n : ℕ) (lent : List ℕ) → eqb (opening file n lent).0.number 0 ≡ false
    → opening file n lent ≡ (reply (opening file n lent).0.number empty_state, lent)
unfolding opening
refused-opening file n lent =
    by_cases (λ (r : Reply × List ℕ). eqb r.0.number 0 ≡ false → r ≡ (reply r.0.number empty_state, lent))
    (open_cases file n (length lent)) (λ number. (reply number empty_state, lent)) _ refl
    (λ number e f. refl)
    (λ free f. absurd (eqb-false 0 0 f refl))

-- a call or an opening that was refused changed nothing, but where 4 broke a fill off
pub record RefusedSame : Type 0 where
  pub calls : {p : Parts} → Step p → is_accepted (given_by p.left.seen) ≡ false
      → breaks_fill p.call (number_given (given_by p.left.seen)) ≡ false → Unchanged p.state p.memory p.call p.left
  pub openings : (o : Open) → eqb o.result.number 0 ≡ false → RefusedOpening o

pub refused_same_tied : RefusedSame
refused_same_tied =
    record {
      calls =
          λ {p} step.
          by_contract step
          (λ (c : Called).
          is_accepted (given_by c.seen) ≡ false → breaks_fill p.call (number_given (given_by c.seen)) ≡ false
          → Unchanged p.state p.memory p.call c)
          (refused_same p.state p.memory p.call);
      openings =
          λ o refused.
          let file = opened_file o in
          let n = opened_slots o in
          let lent = lent_memory o in
          let number = ap (λ (r : Reply × List ℕ). r.0.number) o.promised in
          let is = o.promised ∙ refused-opening file n lent (ap (λ (k : ℕ). eqb k 0) (sym number) ∙ refused) in
          record { empty = ap (λ (r : Reply × List ℕ). r.0.state) is; memory_same = ap (λ (r : Reply × List ℕ). r.1) is };
    }

-- a call that broke a fill off left none, and its slot white
pub fill_broken_tied : {p : Parts} → Step p → breaks_fill p.call (number_given (given_by p.left.seen)) ≡ true
    → FillBroken p.state p.memory p.call p.left
fill_broken_tied {p} step =
    by_contract step
    (λ (c : Called). breaks_fill p.call (number_given (given_by c.seen)) ≡ true → FillBroken p.state p.memory p.call c)
    (fill_broken p.state p.memory p.call)

-- what was accepted left a valid state
pub valid_kept_tied : {p : Parts} → Step p → is_accepted (given_by p.left.seen) ≡ true → state_valid p.left.state ≡ true
valid_kept_tied {p} step =
    by_contract step (λ (c : Called). is_accepted (given_by c.seen) ≡ true → state_valid c.state ≡ true)
    (valid_kept p.state p.memory p.call)

pub opened_valid_tied : (o : Open) → o.result.number ≡ 0 → state_valid o.result.state ≡ true
opened_valid_tied o accepted =
    subst (λ (r : Reply × List ℕ). state_valid r.0.state ≡ true) (sym o.promised)
    (opened_valid (opened_file o) (opened_slots o) (lent_memory o) (ap (λ (r : Reply × List ℕ). r.0.number) (sym o.promised) ∙ accepted))

-- a state that is not valid earned 13
pub invalid_refused_tied : {p : Parts} → Step p → state_valid p.state ≡ false → number_given (given_by p.left.seen) ≡ 13
invalid_refused_tied {p} step invalid =
    by_contract step (λ (c : Called). number_given (given_by c.seen) ≡ 13) (invalid_refused p.state p.memory p.call invalid)

-- ---- chains

-- what holds of the events of every list of calls holds of those of a chain
module _ {s : State} {m : List ℕ} {events : List Event} {u : List ℕ} (chain : Chain Step s m events u) where
  by_list : (P : List Event → Type 0) → P (events_of s m (calls_of chain)) → P events
  by_list P = subst P (listed chain).seen

-- since an accepted opening, and from any valid state: every poll is on time
pub history_on_time_tied : (o : Open) → o.result.number ≡ 0 → {events : List Event} {u : List ℕ}
    → Chain Step o.result.state (opened_memory o) events u → AllTimely 0 (opened_file o) no_run events
history_on_time_tied o accepted chain =
    by_list chain (AllTimely 0 (opened_file o) no_run)
    (subst (λ (r : Reply × List ℕ). AllTimely 0 (opened_file o) no_run (events_of r.0.state r.1 (calls_of chain))) (sym o.promised)
    (history_on_time (opened_file o) (opened_slots o) (lent_memory o) (calls_of chain)
    (ap (λ (r : Reply × List ℕ). r.0.number) (sym o.promised) ∙ accepted)))

pub state_on_time_tied : (s : State) (m : List ℕ) → state_valid s ≡ true → {events : List Event} {u : List ℕ} → Chain Step s m events u
    → AllTimely 0 (file_of s) (observed_in (file_of s) s.store.phase) events
state_on_time_tied s m valid chain =
    by_list chain (AllTimely 0 (file_of s) (observed_in (file_of s) s.store.phase)) (state_on_time s m (calls_of chain) valid)

-- since an accepted start
module _ (c : Start) (accepted : c.result.number ≡ 0) {events : List Event} {u : List ℕ}
    (chain : Chain Step c.result.state (start_parts c).memory events u) where
  abbrev state : State
  state = (start_parts c).state

  abbrev memory : List ℕ
  memory = (start_parts c).memory

  abbrev file : List ℕ
  file = file_of state

  abbrev calls : List Call
  calls = calls_of chain

  promised_0 : (starting state (length memory) (started_slot c) (started_tick c)).number ≡ 0
  promised_0 = ap (λ (r : Reply). r.number) (sym c.promised) ∙ accepted

  -- what holds after the start by its definition holds after the call
  since : (P : State → Type 0) → P (starting state (length memory) (started_slot c) (started_tick c)).state → P c.result.state
  since P = subst (λ (r : Reply). P r.state) (sym c.promised)

  -- every poll is on time
  pub run_on_time_tied : AllTimely 0 file (a_run (started_slot c) (watch_at_start file (started_tick c))) events
  run_on_time_tied =
      by_list chain (AllTimely 0 file (a_run (started_slot c) (watch_at_start file (started_tick c))))
      (since (λ (s : State). AllTimely 0 file (a_run (started_slot c) (watch_at_start file (started_tick c))) (events_of s memory calls))
      (run_keeps_time state memory (started_slot c) (started_tick c) calls promised_0))

  module _ (quiet : no_turns events ≡ true) where
    quiet_list : no_turns (events_of (starting state (length memory) (started_slot c) (started_tick c)).state memory calls) ≡ true
    quiet_list =
        ap (λ (r : Reply). no_turns (events_of r.state memory calls)) (sym c.promised) ∙ ap no_turns (listed chain).seen ∙ quiet

    -- the things of the run are handed out in order
    pub record GoesOn : Type 0 where
      pub to_come : List Thing
      pub goes : AllGo file (started_slot c) (things_of_run file) events to_come

    pub run_in_order_tied : GoesOn
    run_in_order_tied =
        let left = (starting state (length memory) (started_slot c) (started_tick c)).state in
        let rest = things_in file (state_after left memory calls).store.phase in
        record {
          to_come = rest;
          goes =
              by_list chain (λ es. AllGo file (started_slot c) (things_of_run file) es rest)
              (since (λ (s : State). AllGo file (started_slot c) (things_of_run file) (events_of s memory calls) rest)
              (run_in_order state memory (started_slot c) (started_tick c) calls promised_0 quiet_list));
        }

    -- and once as many were handed out as the run has, one of the answers was done
    pub run_ends_tied : hand_outs events ≡ length (things_of_run file) → was_done events ≡ true
    run_ends_tied = all_done run_in_order_tied.goes

    -- what is put out is that of the pictures as they were at the start
    abbrev whole : List (List ℕ)
    whole =
        run_put file (slot_picture (row_bytes_in file) (rows_in file) memory 0) (slot_picture (row_bytes_in file) (rows_in file) memory (started_slot c))

    pub equal_frames_tied : Shows whole events
    equal_frames_tied =
        by_list chain (Shows whole)
        (since (λ (s : State). Shows whole (events_of s memory calls))
        (equal_frames state memory (started_slot c) (started_tick c) calls promised_0 quiet_list))

-- ---- bitmap files

-- what the writer made of a slot, uploaded to a slot of any store of that panel, is there
pub file_carries_tied : (w : WriteBitmap) (c : UploadBitmap) → AreBytes (write_parts w).memory → w.result.number ≡ 0
    → panel_of (file_of (bitmap_parts c).state) ≡ panel_of (file_of (write_parts w).state)
    → uploaded_file c ≡ file_left (sizes_of (write_parts w).state) (write_parts w).left.out
    → first_of (upload_cases (bitmap_parts c).state (length (bitmap_parts c).memory) (uploaded_slot c)) (λ n. n) 0 ≡ 0
    → Carried (sizes_of (write_parts w).state) (write_parts w).memory (written_slot w) (bitmap_parts c).state (bitmap_parts c).memory
    (uploaded_slot c) (c.result, (bitmap_parts c).left.memory)
file_carries_tied w c bytes accepted panel is free =
    let sizes = sizes_of (write_parts w).state in
    let there : Reply × List ℕ → Type 0 =
    λ r. Carried sizes (write_parts w).memory (written_slot w) (bitmap_parts c).state (bitmap_parts c).memory (uploaded_slot c) r in
    let written = ap (λ (r : Reply × List ℕ). file_left sizes r.1) w.promised in
    let carried =
    file_carries (write_parts w).state (write_parts w).memory (written_slot w) (out_of (write_parts w).call) bytes
    (ap (λ (r : Reply × List ℕ). r.0.number) (sym w.promised) ∙ accepted) (bitmap_parts c).state (bitmap_parts c).memory
    (uploaded_slot c) panel free in
    subst there (sym c.promised)
    (subst (λ (f : List ℕ). there (bitmap_upload (bitmap_parts c).state (bitmap_parts c).memory (uploaded_slot c) f)) (sym (is ∙ written)) carried)

-- the normal form of the file of an upload
abbrev pub normal_of : UploadBitmap → List ℕ
normal_of c =
    let file = file_of (bitmap_parts c).state in
    normal_form (row_bytes_in file) (rows_in file) (stride_in file) (uploaded_file c)

accepted_upload : (c : UploadBitmap) → c.result.number ≡ 0
    → (bitmap_upload (bitmap_parts c).state (bitmap_parts c).memory (uploaded_slot c) (uploaded_file c)).0.number ≡ 0
accepted_upload c accepted = ap (λ (r : Reply × List ℕ). r.0.number) (sym c.promised) ∙ accepted

-- calls on the same
write_same : {s t : State} {m n : List ℕ} {i j : ℕ} (out : List ℕ) → s ≡ t → m ≡ n → i ≡ j → bitmap_write s m i out ≡ bitmap_write t n j out
write_same out e f g = cc

upload_same : {s t : State} {m n : List ℕ} {i j : ℕ} {file bitmap : List ℕ} → s ≡ t → m ≡ n → i ≡ j → file ≡ bitmap
    → bitmap_upload s m i file ≡ bitmap_upload t n j bitmap
upload_same e f g q = cc

-- a file that was uploaded is written in its normal form
pub upload_write_tied : (c : UploadBitmap) (w : WriteBitmap) → AreBytes (uploaded_file c) → c.result.number ≡ 0
    → (write_parts w).state ≡ c.result.state → (write_parts w).memory ≡ (bitmap_parts c).left.memory → written_slot w ≡ uploaded_slot c
    → file_length (rows_in (file_of (bitmap_parts c).state)) (stride_in (file_of (bitmap_parts c).state)) ≤ length (out_of (write_parts w).call)
    → ◌≡◌ {A = Reply × List ℕ} (w.result, (write_parts w).left.out)
    (reply 0 c.result.state, overlay (normal_of c) (out_of (write_parts w).call))
upload_write_tied c w bytes accepted same-state same_memory same-slot room =
    let s : State = (bitmap_parts c).state in
    let m : List ℕ = (bitmap_parts c).memory in
    let out : List ℕ = out_of (write_parts w).call in
    let form : Reply → Reply × List ℕ = λ r. (reply 0 r.state, overlay (normal_of c) out) in
    let trip = upload_write s m (uploaded_slot c) (uploaded_file c) out bytes (accepted_upload c accepted) room in
    let after : bitmap_write c.result.state (bitmap_parts c).left.memory (uploaded_slot c) out ≡ form c.result =
    subst (λ (r : Reply × List ℕ). bitmap_write r.0.state r.1 (uploaded_slot c) out ≡ form r.0) (sym c.promised) trip in
    w.promised ∙ write_same out same-state same_memory same-slot ∙ after

-- and its normal form does the same as the file
pub upload_normal_tied : (c d : UploadBitmap) → c.result.number ≡ 0 → (bitmap_parts d).state ≡ (bitmap_parts c).state
    → (bitmap_parts d).memory ≡ (bitmap_parts c).memory → uploaded_slot d ≡ uploaded_slot c → uploaded_file d ≡ normal_of c
    → ◌≡◌ {A = Reply × List ℕ} (d.result, (bitmap_parts d).left.memory) (c.result, (bitmap_parts c).left.memory)
upload_normal_tied c d accepted same-state same_memory same-slot normal =
    let trip = upload_normal (bitmap_parts c).state (bitmap_parts c).memory (uploaded_slot c) (uploaded_file c) (accepted_upload c accepted) in
    d.promised ∙ upload_same same-state same_memory same-slot normal ∙ trip ∙ sym c.promised

-- ---- fills

-- a call that was made, as its definition says
as_defined : {p : Parts} → Step p → p ≡ made_after p.state p.memory [] p.call
as_defined {p} step = ap (λ (c : Called). record { state = p.state; memory = p.memory; call = p.call; left = c }) (kept step)

-- a call of a chain is what the list of the calls before it and its own definition say
in_list : {s : State} {m : List ℕ} {events : List Event} {u : List ℕ} (chain : Chain Step s m events u) (calls : List Call) (p : Parts)
    → In chain calls p → p ≡ made_after s m calls p.call
in_list finished _ p at = absurd at
in_list (more {p = q} step rest) [] p at =
    at ∙ as_defined step ∙ ap (λ (r : Parts). made_after q.state q.memory [] r.call) (sym at)
in_list (more {p = q} step rest) (call ∷ calls) p at =
    let left : q.left ≡ call_on q.state q.memory call = kept step ∙ ap (call_on q.state q.memory) (sym at.0) in
    in_list rest calls p at.1 ∙ ap (λ (c : Called). made_after c.state c.memory calls p.call) left

-- and one of those before it
in_front : {s : State} {m : List ℕ} {events : List Event} {u : List ℕ} (chain : Chain Step s m events u) (before : List Call) (call : Call)
    (rest : List Call) (p : Parts) → In chain (before ++ (call ∷ rest)) p → (q : Parts) × In chain before q × (q.call ≡ call)
in_front finished before call rest p at = absurd at
in_front (more {p = q} step others) [] call rest p at = (q, refl, sym at.0)
in_front (more step others) (first ∷ before) call rest p at =
    let found = in_front others before call rest p at.1 in (found.0, (at.0, found.1), found.2)

module _ {begin : Parts} {slot : ℕ} (step : Step begin) (b : Begun begin slot) {events : List Event} {u : List ℕ}
    (chain : Chain Step begin.left.state begin.left.memory events u) where
  abbrev given : State
  given = begin.state

  abbrev lent : List ℕ
  lent = begin.memory

  by_begin : begin ≡ the_begin given lent slot
  by_begin = as_defined step ∙ ap (made_after given lent []) b.is_begin

  begun_so : Begun (the_begin given lent slot) slot
  begun_so = subst (λ (q : Parts). Begun q slot) by_begin b

  -- a call after the begin and others
  abbrev after : List Call → Call → Parts
  after = made_after begin.left.state begin.left.memory

  -- what holds of a begin by its definition, and of the calls after it, holds of this one
  since_begin : (P : Parts → (List Call → Call → Parts) → Type 0) → P (the_begin given lent slot) (after_begin given lent slot) → P begin after
  since_begin P = subst (λ (q : Parts). P q (made_after q.left.state q.left.memory)) (sym by_begin)

  its_calls : (calls : List Call) (p : Parts) → In chain calls p → Filling calls → Filled begin slot calls p
  its_calls calls p at f =
      subst (Filled begin slot calls) (sym (in_list chain calls p at))
      (since_begin (λ q then. Filled q slot calls (then calls p.call)) (fills_hold given lent slot begun_so calls f p.call))

  -- of a kind there is but one call after these
  only_one : (calls : List Call) (kind : Call) (p q : Parts) → p ≡ after calls p.call → p.call ≡ kind → In chain calls q → q.call ≡ kind
      → p ≡ q
  only_one calls kind p q is of-kind at same = is ∙ ap (after calls) (of-kind ∙ sym same) ∙ sym (in_list chain calls q at)

  its_4 : (calls : List Call) (p : Parts) → In chain calls p → p.call ≡ finish_fill → Filling calls → good given (sent_by calls) ≡ false
      → Earns4 begin slot (In chain) calls
  its_4 calls p at last f bad =
      by_place
      (since_begin (λ q then. Earns4 q slot (λ before r. r ≡ then before r.call) calls)
      (bad_files_earn_4 given lent slot begun_so calls f bad))
    where
      by_place : Earns4 begin slot (λ before r. r ≡ after before r.call) calls → Earns4 begin slot (In chain) calls
      by_place (from_chunk before chunk rest is e g r made kind left) =
          let found = in_front chain before (feed_fill chunk) rest p (subst (λ (l : List Call). In chain l p) is at) in
          from_chunk before chunk rest is e g found.0 found.1 found.2
          (subst (SlotAfter begin slot 4 (white_picture given)) (only_one before (feed_fill chunk) r found.0 made kind found.1 found.2) left)
      by_place (from_finish e r made kind left) =
          from_finish e p at last
          (subst (SlotAfter begin slot 4 (white_picture given)) (only_one calls finish_fill r p made kind at last) left)

  as_whole : (chunks : List (List ℕ)) (p : Parts) → In chain (map feed_fill chunks) p → p.call ≡ finish_fill
      → AreBytes (sent_by (map feed_fill chunks)) → good given (sent_by (map feed_fill chunks)) ≡ true
      → (p.left.state ≡ (bitmap_upload given lent slot (sent_by (map feed_fill chunks))).0.state)
      × (p.left.memory ≡ (bitmap_upload given lent slot (sent_by (map feed_fill chunks))).1)
  as_whole chunks p at last sent fine =
      let calls = map feed_fill chunks in
      let from : State = (the_begin given lent slot).left.state in
      let whole = fills_as_whole given lent slot begun_so chunks sent fine in
      let is : p.left ≡ (after_begin given lent slot calls finish_fill).left =
      ap (λ (q : Parts). q.left) (in_list chain calls p at ∙ ap (after calls) last)
      ∙ ap (λ (q : Parts). (made_after q.left.state q.left.memory calls finish_fill).left) by_begin in (
        ap (λ (c : Called). c.state) is ∙ sym (state-append from lent calls (finish_fill ∷ [])) ∙ whole.0,
        ap (λ (c : Called). c.memory) is ∙ sym (memory-append from lent calls (finish_fill ∷ [])) ∙ whole.1,
      )

pub fills_hold_tied : FillsHoldMade Step
fills_hold_tied begin slot step b events u = its_calls step b

pub bad_files_earn_4_tied : BadFilesEarn4Made Step
bad_files_earn_4_tied begin slot step b events u = its_4 step b

pub fills_as_whole_tied : FillsAsWholeMade Step
fills_as_whole_tied begin slot step b events u chain chunks p at last sent fine upload made same-state same_memory is =
    let file : List ℕ = sent_by (map feed_fill chunks) in
    let whole = as_whole step b chain chunks p at last sent fine in
    let left : upload.left ≡ call_on begin.state begin.memory (upload_bitmap slot file) =
    kept made
    ∙ ap (λ (s : State). call_on s upload.memory upload.call) same-state
    ∙ ap (λ (m : List ℕ). call_on begin.state m upload.call) same_memory
    ∙ ap (call_on begin.state begin.memory) is in (
      whole.0 ∙ sym (ap (λ (c : Called). c.state) left),
      whole.1 ∙ sym (ap (λ (c : Called). c.memory) left),
    )

-- ---- summaries

-- the state that a chain of calls leaves is that of its list of calls
ended_so : {s : State} {m : List ℕ} {events : List Event} {u : List ℕ} (chain : Chain Step s m events u)
    → end_of chain ≡ state_after s m (calls_of chain)
ended_so finished = refl
ended_so (more {p = p} step rest) =
    ended_so rest ∙ ap (λ (c : Called). state_after c.state c.memory (calls_of rest)) (kept step)

-- since an accepted opening every summary is a fresh count, after every chain of calls
module _ (o : Open) (accepted : o.result.number ≡ 0) {events : List Event} {u : List ℕ}
    (chain : Chain Step o.result.state (opened_memory o) events u) where
  pub summaries_tied : Summarises (row_bytes_in (opened_file o)) (rows_in (opened_file o)) (opened_slots o) (end_of chain) u
  summaries_tied =
      let file = opened_file o in
      let calls : List Call = calls_of chain in
      let Holds : State → List ℕ → Type 0 = Summarises (row_bytes_in file) (rows_in file) (opened_slots o) in
      let whole =
      summaries_hold file (opened_slots o) (lent_memory o) (ap (λ (r : Reply × List ℕ). r.0.number) (sym o.promised) ∙ accepted) calls in
      let since =
      subst (λ (r : Reply × List ℕ). Holds (state_after r.0.state r.1 calls) (memory_after r.0.state r.1 calls)) (sym o.promised) whole in
      subst (Holds (end_of chain)) (listed chain).left (subst (λ (s : State). Holds s (memory_after o.result.state (opened_memory o) calls)) (sym (ended_so chain)) since)

  -- and a call for it gave that
  pub summary_tied : (c : SummaryCall) → summary_state c ≡ end_of chain → summary_slot c ≤ opened_slots o
      → c.result
      ≡ summarised 0
      (summary_of (row_bytes_in (opened_file o)) (rows_in (opened_file o))
      (slot_picture (row_bytes_in (opened_file o)) (rows_in (opened_file o)) u (summary_slot c)))
      (summary_state c)
  summary_tied c same high =
      let file = opened_file o in
      let count = summary_of (row_bytes_in file) (rows_in file) (slot_picture (row_bytes_in file) (rows_in file) u (summary_slot c)) in
      c.promised
      ∙ subst (λ (s : State). slot_summary s (summary_slot c) ≡ summarised 0 count s) (sym same) (summaries_tied.told (summary_slot c) high)
