-- Lists of calls on a store, and what is seen of them from outside.
-- Assumes nothing.
use Rattle.std.specs.Prelude.{ℕ, Bool, true, false, cond, List, [], ◌∷◌, eqb, length}
use Rattle.picture.specs.Slots.{slot_picture}
use Rattle.summary.specs.declared.Summary.{Summary}
use Rattle.run.specs.declared.Tick.{Tick}
use Rattle.poll.specs.Answers.{answer_number}
use Rattle.poll.specs.declared.Answer.{Answer}
use Rattle.poll.specs.declared.Answer.TheVariants.{Refused, Write, Line, Wait, Done}
use Rattle.board.specs.Calls.{region_upload, bitmap_upload, fill_begin, fill_feed, fill_finish, fill_cancel, starting, abandoning, Polling, polled, bitmap_write, slot_summary}
use Rattle.board.specs.declared.State.{State}
use Rattle.board.specs.declared.Reply.{Reply}
use Rattle.board.specs.declared.Summarised.{Summarised}

-- a call on the store, with what it brings. Every public call but opening that takes the state has a place here
pub data Call : Type 0 where
  upload_region : (slot x y width height : ℕ) (payload : List ℕ) → Call
  upload_bitmap : (slot : ℕ) (file : List ℕ) → Call
  begin_fill : (slot : ℕ) → Call
  feed_fill : (chunk : List ℕ) → Call
  finish_fill : Call
  cancel_fill : Call
  start : (slot : ℕ) (tick : Tick) → Call
  poll : (tick : Tick) (out : List ℕ) → Call
  abandon : Call
  write_bitmap : (slot : ℕ) (out : List ℕ) → Call
  summary : (slot : ℕ) → Call

-- what a call is to a run: it starts one, polls it, abandons it, or has no part in it
pub data Part : Type 0 where
  starts : (slot : ℕ) (tick : Tick) → Part
  polls : (tick : Tick) → Part
  abandons : Part
  no_part : Part

abbrev pub part_of : Call → Part
part_of (upload_region slot x y width height payload) = no_part
part_of (upload_bitmap slot file) = no_part
part_of (begin_fill slot) = no_part
part_of (feed_fill chunk) = no_part
part_of finish_fill = no_part
part_of cancel_fill = no_part
part_of (start slot tick) = starts slot tick
part_of (poll tick out) = polls tick
part_of abandon = abandons
part_of (write_bitmap slot out) = no_part
part_of (summary slot) = no_part

-- what a call gave back: a number, what a poll answered, or a number with a slot's summary
pub data Given : Type 0 where
  number : ℕ → Given
  answered : Answer → Given
  summed : ℕ → Summary → Given

-- the number of what a call gave back, and whether it accepts the call
abbrev pub number_given : Given → ℕ
number_given (number n) = n
number_given (answered answer) = answer_number answer
number_given (summed n held) = n

abbrev pub is_accepted : Given → Bool
is_accepted given = eqb (number_given given) 0

abbrev pub is_done_answer : Answer → Bool
is_done_answer (Refused n) = false
is_done_answer (Write n) = false
is_done_answer (Line n) = false
is_done_answer (Wait ms) = false
is_done_answer Done = true

abbrev pub is_done : Given → Bool
is_done (number n) = false
is_done (answered answer) = is_done_answer answer
is_done (summed n held) = false

-- what is seen of a call: the call, the picture memory as it was, what it gave back, and the bytes that a poll put out
pub data Event : Type 0 where
  event : (call : Call) (memory : List ℕ) (given : Given) (put : List ℕ) → Event

-- the output that a call is lent; one that is lent none has no bytes
abbrev pub out_of : Call → List ℕ
out_of (upload_region slot x y width height payload) = []
out_of (upload_bitmap slot file) = []
out_of (begin_fill slot) = []
out_of (feed_fill chunk) = []
out_of finish_fill = []
out_of cancel_fill = []
out_of (start slot tick) = []
out_of (poll tick out) = out
out_of abandon = []
out_of (write_bitmap slot out) = out
out_of (summary slot) = []

-- a call's event, and the state, the memory and the output that it left
pub record Called : Type 0 where
  pub seen : Event
  pub state : State
  pub memory : List ℕ
  pub out : List ℕ

abbrev pub of_reply : (call : Call) (before : List ℕ) → Reply → (after out : List ℕ) → Called
of_reply call before r after out =
    record { seen = event call before (number r.number) []; state = r.state; memory = after; out = out }

abbrev pub of_poll : (call : Call) (before : List ℕ) → Polling → Called
of_poll call before p =
    record { seen = event call before (answered p.answer) p.put; state = p.state; memory = p.memory; out = p.out }

abbrev pub of_summary : (call : Call) (memory : List ℕ) → Summarised → Called
of_summary call memory r =
    record { seen = event call memory (summed r.number r.summary) []; state = r.state; memory = memory; out = [] }

-- one call on a state and a memory, by the definition that its contract cites
abbrev pub call_on : (state : State) (memory : List ℕ) → Call → Called
call_on state memory (upload_region slot x y width height payload) =
    of_reply (upload_region slot x y width height payload) memory
    (region_upload state memory slot x y width height payload).0
    (region_upload state memory slot x y width height payload).1 []
call_on state memory (upload_bitmap slot file) =
    of_reply (upload_bitmap slot file) memory (bitmap_upload state memory slot file).0 (bitmap_upload state memory slot file).1 []
call_on state memory (begin_fill slot) = of_reply (begin_fill slot) memory (fill_begin state (length memory) slot) memory []
call_on state memory (feed_fill chunk) =
    of_reply (feed_fill chunk) memory (fill_feed state memory chunk).0 (fill_feed state memory chunk).1 []
call_on state memory finish_fill = of_reply finish_fill memory (fill_finish state memory).0 (fill_finish state memory).1 []
call_on state memory cancel_fill = of_reply cancel_fill memory (fill_cancel state memory).0 (fill_cancel state memory).1 []
call_on state memory (start slot tick) = of_reply (start slot tick) memory (starting state (length memory) slot tick) memory []
call_on state memory (poll tick out) = of_poll (poll tick out) memory (polled state tick memory out)
call_on state memory abandon = of_reply abandon memory (abandoning state (length memory)) memory []
call_on state memory (write_bitmap slot out) =
    of_reply (write_bitmap slot out) memory (bitmap_write state memory slot out).0 memory (bitmap_write state memory slot out).1
call_on state memory (summary slot) = of_summary (summary slot) memory (slot_summary state slot)

-- a list of calls, each given the state and the memory that the one before it left: what is seen of them, and the memory at the end
abbrev pub events_of : (state : State) (memory : List ℕ) → List Call → List Event
events_of state memory [] = []
events_of state memory (call ∷ calls) =
    (call_on state memory call).seen ∷ events_of (call_on state memory call).state (call_on state memory call).memory calls

abbrev pub memory_after : (state : State) (memory : List ℕ) → List Call → List ℕ
memory_after state memory [] = memory
memory_after state memory (call ∷ calls) = memory_after (call_on state memory call).state (call_on state memory call).memory calls

-- ---- read from the events alone

-- what a call gave back
abbrev pub given_by : Event → Given
given_by (event call memory given put) = given

-- the bytes that polls put out, in order
abbrev pub put_by : Event → List ℕ
put_by (event call memory given put) = put

abbrev pub handed_out : List Event → List (List ℕ)
handed_out [] = []
handed_out (e ∷ es) = put_by e ∷ handed_out es

-- whether a run is under way, and on which slot, or abandoned, or neither
pub data Standing : Type 0 where
  at_rest : Standing
  under_way : (slot : ℕ) → Standing
  abandoned : Standing

-- the standing, and the shown picture
pub record Seen : Type 0 where
  pub standing : Standing
  pub shown : List ℕ

-- a run is under way from an accepted start to the poll that answers done or to an accepted abandon; after that abandon it is
-- abandoned. At done the shown picture becomes what the run's slot held
abbrev pub after_done : (b h : ℕ) (memory : List ℕ) → Seen → Standing → Seen
after_done b h memory seen at_rest = seen
after_done b h memory seen (under_way slot) = record { standing = at_rest; shown = slot_picture b h memory slot }
after_done b h memory seen abandoned = seen

abbrev pub after_call : (b h : ℕ) (memory : List ℕ) → Seen → Part → Given → Seen
after_call b h memory seen (starts slot tick) given =
    cond (is_accepted given) (record { standing = under_way slot; shown = seen.shown }) seen
after_call b h memory seen (polls tick) given = cond (is_done given) (after_done b h memory seen seen.standing) seen
after_call b h memory seen abandons given = cond (is_accepted given) (record { standing = abandoned; shown = seen.shown }) seen
after_call b h memory seen no_part given = seen

abbrev pub after_event : (b h : ℕ) → Seen → Event → Seen
after_event b h seen (event call memory given put) = after_call b h memory seen (part_of call) given

abbrev pub seen_after : (b h : ℕ) → Seen → List Event → Seen
seen_after b h seen [] = seen
seen_after b h seen (e ∷ es) = seen_after b h (after_event b h seen e) es
