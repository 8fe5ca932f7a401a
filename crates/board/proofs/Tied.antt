-- Demand 3 once more, over chains of calls that keep the contracts as the checker makes them from the source, from the opening's
-- contract on. A contract that is weakened in src/ is refused here, even where every function is still proved.
-- Assumes nothing.
use mathlib.Core.Path.{◌≡◌, refl, sym, ap, ◌∙◌, subst}
use mathlib.Core.List.{List, [], ◌∷◌}
use Prim.Native.Nat.{ℕ}
use Rattle.lists.proofs.Calls as made
use Rattle.settings.specs.Settings.{row_bytes_in, rows_in}
use Rattle.run.specs.Due.{run_frames}
use Rattle.run.specs.declared.Tick.{Tick}
use Rattle.board.specs.History as H
use Rattle.board.specs.History.{Call, Event, call_on, of_reply, of_poll, of_summary, events_of, memory_after}
use Rattle.board.specs.Calls.{polling}
use Rattle.board.specs.Chains.{Parts, Chain, finished, more, calls_of}
use Rattle.board.specs.Balance.{Balanced}
use Rattle.board.specs.declared.State.{State}
use Rattle.board.specs.declared.Reply.{Reply}
use Rattle.board.proofs.Demand3.{demand3}
use Rattle.board.proofs.open.Kinds as open-kinds
use Rattle.board.proofs.open.Reads as open-reads
use Rattle.board.proofs.State.upload_region.Kinds as region-kinds
use Rattle.board.proofs.State.upload_region.Reads as region-reads
use Rattle.board.proofs.State.upload_bitmap.Kinds as bitmap-kinds
use Rattle.board.proofs.State.upload_bitmap.Reads as bitmap-reads
use Rattle.board.proofs.State.begin_fill.Kinds as begin-kinds
use Rattle.board.proofs.State.begin_fill.Reads as begin-reads
use Rattle.board.proofs.State.feed_fill.Kinds as feed-kinds
use Rattle.board.proofs.State.feed_fill.Reads as feed-reads
use Rattle.board.proofs.State.finish_fill.Kinds as finish-kinds
use Rattle.board.proofs.State.finish_fill.Reads as finish-reads
use Rattle.board.proofs.State.cancel_fill.Kinds as cancel-kinds
use Rattle.board.proofs.State.cancel_fill.Reads as cancel-reads
use Rattle.board.proofs.State.write_bitmap.Kinds as write-kinds
use Rattle.board.proofs.State.write_bitmap.Reads as write-reads
use Rattle.board.proofs.State.start.Kinds as start-kinds
use Rattle.board.proofs.State.start.Reads as start-reads
use Rattle.board.proofs.State.abandon.Kinds as abandon-kinds
use Rattle.board.proofs.State.abandon.Reads as abandon-reads
use Rattle.board.proofs.State.summary.Kinds as summary-kinds
use Rattle.board.proofs.State.summary.Reads as summary-reads
use Rattle.board.proofs.State.poll.Kinds as poll-kinds
use Rattle.board.proofs.State.poll.Reads as poll-reads

-- ---- the values of a call: its arguments, its result and its parameters at exit, for which its contract holds

abbrev pub Open : Type 0
Open = made.Call 2 open-kinds.ps open-kinds.r open-reads.Learnt

abbrev pub UploadRegion : Type 0
UploadRegion = made.Call 2 region-kinds.ps region-kinds.r region-reads.Learnt

abbrev pub UploadBitmap : Type 0
UploadBitmap = made.Call 2 bitmap-kinds.ps bitmap-kinds.r bitmap-reads.Learnt

abbrev pub BeginFill : Type 0
BeginFill = made.Call 1 begin-kinds.ps begin-kinds.r begin-reads.Learnt

abbrev pub FeedFill : Type 0
FeedFill = made.Call 2 feed-kinds.ps feed-kinds.r feed-reads.Learnt

abbrev pub FinishFill : Type 0
FinishFill = made.Call 1 finish-kinds.ps finish-kinds.r finish-reads.Learnt

abbrev pub CancelFill : Type 0
CancelFill = made.Call 1 cancel-kinds.ps cancel-kinds.r cancel-reads.Learnt

abbrev pub Start : Type 0
Start = made.Call 1 start-kinds.ps start-kinds.r start-reads.Learnt

abbrev pub Abandon : Type 0
Abandon = made.Call 1 abandon-kinds.ps abandon-kinds.r abandon-reads.Learnt

abbrev pub Poll : Type 0
Poll = made.Call 2 poll-kinds.ps poll-kinds.r poll-reads.Learnt

abbrev pub WriteBitmap : Type 0
WriteBitmap = made.Call 2 write-kinds.ps write-kinds.r write-reads.Learnt

abbrev pub SummaryCall : Type 0
SummaryCall = made.Call 0 summary-kinds.ps summary-kinds.r summary-reads.Learnt

-- ---- the parts of each call: the places of its arguments are named here and nowhere else

-- the slot and the tick reading of a start, the slot and the file of a bitmap upload, the slot of the writer, and the state and the slot of a
-- call for a summary
abbrev pub started_slot : Start → ℕ
started_slot c = c.args.1.1.0

abbrev pub started_tick : Start → Tick
started_tick c = c.args.1.1.1.0

abbrev pub uploaded_slot : UploadBitmap → ℕ
uploaded_slot c = c.args.1.1.0

abbrev pub uploaded_file : UploadBitmap → List ℕ
uploaded_file c = c.args.1.1.1.0.now

abbrev pub written_slot : WriteBitmap → ℕ
written_slot c = c.args.1.1.0

abbrev pub summary_state : SummaryCall → State
summary_state c = c.args.0

abbrev pub summary_slot : SummaryCall → ℕ
summary_slot c = c.args.1.0

-- a call that answers a number: its memory at entry, its reply, and the memory and the output at exit
abbrev replied : State → (before : List ℕ) → Call → Reply → (after out : List ℕ) → Parts
replied state before call r after out =
    record { state = state; memory = before; call = call; left = of_reply call before r after out }

abbrev pub region_parts : UploadRegion → Parts
region_parts c =
    replied c.args.0 c.args.1.0.now
    (H.upload_region c.args.1.1.0 c.args.1.1.1.0 c.args.1.1.1.1.0 c.args.1.1.1.1.1.0
    c.args.1.1.1.1.1.1.0 c.args.1.1.1.1.1.1.1.0.now)
    c.result c.exit.1.0.now []

abbrev pub bitmap_parts : UploadBitmap → Parts
bitmap_parts c =
    replied c.args.0 c.args.1.0.now (H.upload_bitmap (uploaded_slot c) (uploaded_file c)) c.result c.exit.1.0.now []

abbrev pub begin_parts : BeginFill → Parts
begin_parts c = replied c.args.0 c.args.1.0.now (H.begin_fill c.args.1.1.0) c.result c.args.1.0.now []

abbrev pub feed_parts : FeedFill → Parts
feed_parts c = replied c.args.0 c.args.1.0.now (H.feed_fill c.args.1.1.0.now) c.result c.exit.1.0.now []

abbrev pub finish_parts : FinishFill → Parts
finish_parts c = replied c.args.0 c.args.1.0.now H.finish_fill c.result c.exit.1.0.now []

abbrev pub cancel_parts : CancelFill → Parts
cancel_parts c = replied c.args.0 c.args.1.0.now H.cancel_fill c.result c.exit.1.0.now []

abbrev pub start_parts : Start → Parts
start_parts c =
    replied c.args.0 c.args.1.0.now (H.start (started_slot c) (started_tick c)) c.result c.args.1.0.now []

abbrev pub abandon_parts : Abandon → Parts
abandon_parts c = replied c.args.0 c.args.1.0.now H.abandon c.result c.args.1.0.now []

abbrev pub write_parts : WriteBitmap → Parts
write_parts c =
    replied c.args.0 c.args.1.0.now (H.write_bitmap (written_slot c) c.args.1.1.1.0.now) c.result
    c.args.1.0.now c.exit.1.1.1.0.now

abbrev pub poll_parts : Poll → Parts
poll_parts c =
    let call = H.poll c.args.1.0 c.args.1.1.1.0.now in
    let before = c.args.1.1.0.now in
    record {
      state = c.args.0;
      memory = before;
      call = call;
      left = of_poll call before (polling c.result.answer c.result.state c.exit.1.1.0.now c.exit.1.1.1.0.now);
    }

-- it is lent no memory, which stays as it was
abbrev pub summary_parts : SummaryCall → (memory : List ℕ) → Parts
summary_parts c memory =
    let call = H.summary (summary_slot c) in
    record { state = summary_state c; memory = memory; call = call; left = of_summary call memory c.result }

-- what an opening was given and left
abbrev pub opened_file : Open → List ℕ
opened_file o = o.args.0.now

abbrev pub opened_slots : Open → ℕ
opened_slots o = o.args.1.0

abbrev pub opened_memory : Open → List ℕ
opened_memory o = o.exit.1.1.0.now

abbrev pub lent_memory : Open → List ℕ
lent_memory o = o.args.1.1.0.now

-- ---- no call asks anything of what it is given: a `requires` that is added to one is refused here

pub record AskNothing : Type 0 where
  pub opening : made.AsksNothing 2 open-kinds.ps open-reads.Asked
  pub region_upload : made.AsksNothing 2 region-kinds.ps region-reads.Asked
  pub bitmap_upload : made.AsksNothing 2 bitmap-kinds.ps bitmap-reads.Asked
  pub begin_fill : made.AsksNothing 1 begin-kinds.ps begin-reads.Asked
  pub feed_fill : made.AsksNothing 2 feed-kinds.ps feed-reads.Asked
  pub finish_fill : made.AsksNothing 1 finish-kinds.ps finish-reads.Asked
  pub cancel_fill : made.AsksNothing 1 cancel-kinds.ps cancel-reads.Asked
  pub starting : made.AsksNothing 1 start-kinds.ps start-reads.Asked
  pub abandoning : made.AsksNothing 1 abandon-kinds.ps abandon-reads.Asked
  pub polling : made.AsksNothing 2 poll-kinds.ps poll-reads.Asked
  pub writing : made.AsksNothing 2 write-kinds.ps write-reads.Asked
  pub summarising : made.AsksNothing 0 summary-kinds.ps summary-reads.Asked

pub asks_nothing : AskNothing
asks_nothing =
    record {
      opening = λ l args. tt;
      region_upload = λ l args. tt;
      bitmap_upload = λ l args. tt;
      begin_fill = λ l args. tt;
      feed_fill = λ l args. tt;
      finish_fill = λ l args. tt;
      cancel_fill = λ l args. tt;
      starting = λ l args. tt;
      abandoning = λ l args. tt;
      polling = λ l args. tt;
      writing = λ l args. tt;
      summarising = λ l args. tt;
    }

-- ---- one call that keeps its contract

pub data Step : Parts → Type 0 where
  upload_region : (c : UploadRegion) → Step (region_parts c)
  upload_bitmap : (c : UploadBitmap) → Step (bitmap_parts c)
  begin_fill : (c : BeginFill) → Step (begin_parts c)
  feed_fill : (c : FeedFill) → Step (feed_parts c)
  finish_fill : (c : FinishFill) → Step (finish_parts c)
  cancel_fill : (c : CancelFill) → Step (cancel_parts c)
  start : (c : Start) → Step (start_parts c)
  abandon : (c : Abandon) → Step (abandon_parts c)
  poll : (c : Poll) → Step (poll_parts c)
  write_bitmap : (c : WriteBitmap) → Step (write_parts c)
  summary : (c : SummaryCall) (memory : List ℕ) → Step (summary_parts c memory)

-- it left what the definition of its call says
pub kept : {p : Parts} → Step p → p.left ≡ call_on p.state p.memory p.call
kept {p} (upload_region c) = ap (λ (z : Reply × List ℕ). of_reply p.call p.memory z.0 z.1 []) c.promised
kept {p} (upload_bitmap c) = ap (λ (z : Reply × List ℕ). of_reply p.call p.memory z.0 z.1 []) c.promised
kept {p} (begin_fill c) = ap (λ (r : Reply). of_reply p.call p.memory r p.memory []) c.promised
kept {p} (feed_fill c) = ap (λ (z : Reply × List ℕ). of_reply p.call p.memory z.0 z.1 []) c.promised
kept {p} (finish_fill c) = ap (λ (z : Reply × List ℕ). of_reply p.call p.memory z.0 z.1 []) c.promised
kept {p} (cancel_fill c) = ap (λ (z : Reply × List ℕ). of_reply p.call p.memory z.0 z.1 []) c.promised
kept {p} (start c) = ap (λ (r : Reply). of_reply p.call p.memory r p.memory []) c.promised
kept {p} (abandon c) = ap (λ (r : Reply). of_reply p.call p.memory r p.memory []) c.promised
kept {p} (poll c) = ap (of_poll p.call p.memory) c.promised
kept {p} (write_bitmap c) = ap (λ (z : Reply × List ℕ). of_reply p.call p.memory z.0 p.memory z.1) c.promised
kept {p} (summary c memory) = ap (of_summary p.call memory) c.promised

-- ---- a chain of such calls is a list of calls

-- the events and the memory at the end are those of that list
pub record Listed (s : State) (m : List ℕ) (calls : List Call) (events : List Event) (u : List ℕ) : Type 0 where
  pub seen : events_of s m calls ≡ events
  pub left : memory_after s m calls ≡ u

-- one call more, which left what its definition says
next : (p : Parts) {calls : List Call} {events : List Event} {u : List ℕ} → p.left ≡ call_on p.state p.memory p.call
    → Listed p.left.state p.left.memory calls events u
    → Listed p.state p.memory (p.call ∷ calls) (p.left.seen ∷ events) u
next p {calls} {events} {u} e l =
    record {
      seen = rw (← e) (ap (λ (es : List Event). p.left.seen ∷ es) l.seen);
      left = rw (← e) l.left;
    }

pub listed : {s : State} {m : List ℕ} {events : List Event} {u : List ℕ} (chain : Chain Step s m events u) → Listed s m (calls_of chain) events u
listed finished = record { seen = refl; left = refl }
listed (more {p = p} step rest) = next p (kept step) (listed rest)

-- ---- the demand, from the contracts alone: over every chain of calls since an opening that answered 0

pub demand3_tied : (o : Open) → o.result.number ≡ 0 → {events : List Event} {u : List ℕ}
    → Chain Step o.result.state (opened_memory o) events u
    → Balanced (row_bytes_in (opened_file o)) (rows_in (opened_file o)) (run_frames (opened_file o)) events u
demand3_tied o e {events} {u} chain =
    let file : List ℕ = opened_file o in
    let b : ℕ = row_bytes_in file in
    let h : ℕ = rows_in file in
    let N : ℕ = run_frames file in
    let calls : List Call = calls_of chain in
    let l : Listed o.result.state (opened_memory o) calls events u = listed chain in
    let from : (z : Reply × List ℕ) → Type 0 = λ z. Balanced b h N (events_of z.0.state z.1 calls) (memory_after z.0.state z.1 calls) in
    let whole = demand3 file (opened_slots o) (lent_memory o) (ap (λ (z : Reply × List ℕ). z.0.number) (sym o.promised) ∙ e) calls in
    let opened : from (o.result, opened_memory o) = subst from (sym o.promised) whole in
    subst (λ (m : List ℕ). Balanced b h N events m) l.left
    (subst (λ (es : List Event). Balanced b h N es (memory_after o.result.state (opened_memory o) calls)) l.seen opened)
