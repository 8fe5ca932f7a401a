-- Document 01, "The run and its time", from outside: passed time, the moment of each thing handed out, F, and the moment from which the
-- next thing may go. They are read from the events of calls alone (the start's reading, the readings and answers of polls) and from
-- the plain list of a run's things with the waits between them; no state is looked at.
-- Assumes nothing.
use Rattle.std.specs.Prelude.{ℕ, zero, suc, ◌+◌, ◌-◌, ◌*◌, ◌/◌, ◌%◌, ◌≤◌, ◌<◌, max, ◌≡◌, false, true, cond, List, [], ◌∷◌, ◌++◌, length}
use Rattle.settings.specs.Settings.{Step, write, wait, malformed, start_steps, stop_steps, rows_in}
use Rattle.run.specs.Clock.{step_from}
use Rattle.run.specs.Due.{run_frames}
use Rattle.run.specs.declared.Tick.{Tick}
use Rattle.poll.specs.Answers.{answer_number}
use Rattle.poll.specs.declared.Answer.{Answer}
use Rattle.poll.specs.declared.Answer.TheVariants as answer
use Rattle.board.specs.State.{file_of}
use Rattle.board.specs.Calls.{opening, starting}
use Rattle.board.specs.History.{Call, Part, starts, polls, abandons, no_part, part_of, Given, number, answered, summed, is_accepted, Event, event, events_of}
use Rattle.theorems.specs.Order.{Thing, a_write, a_line, the_end, thing_bytes, thing_answer}
use Rattle.theorems.specs.Progress.{is_hand_out, hands_out}
use Rattle.board.specs.declared.State.{State}

-- ---- the plain list of a run: its things, and what holds them back

-- a wait in ms, the beginning of frame i, or a thing to hand out
pub data Item : Type 0 where
  pause : (ms : ℕ) → Item
  frame_begins : (i : ℕ) → Item
  out : (thing : Thing) → Item

-- the waits and writes of a section, as they stand in the file; an accepted file has nothing malformed
abbrev pub step_items : List Step → List Item
step_items [] = []
step_items (write register bytes ∷ steps) = out (a_write (write register bytes)) ∷ step_items steps
step_items (wait ms ∷ steps) = pause ms ∷ step_items steps
step_items (malformed ∷ steps) = step_items steps

-- the lines of `count` rows from `row` on
abbrev pub row_items : (stage frame row count : ℕ) → List Item
row_items stage frame row zero = []
row_items stage frame row (suc count) = out (a_line stage frame row) ∷ row_items stage frame (row + 1) count

-- frame i of 4N, counted from 0: its beginning, and its h lines. It is frame i mod N of stage floor(i/N) + 1
abbrev pub frame_items : (h N i : ℕ) → List Item
frame_items h N i = frame_begins i ∷ row_items (i / N + 1) (i % N) 0 h

-- `count` frames from frame i on
abbrev pub frames_on : (h N i count : ℕ) → List Item
frames_on h N i zero = []
frames_on h N i (suc count) = frame_items h N i ++ frames_on h N (i + 1) count

-- a run that begins with frame `from`: start steps, the frames up to frame 4N, stop steps, done. The end of the last frame stands as
-- the beginning of frame 4N
abbrev pub run_items : (h N from : ℕ) (before after : List Step) → List Item
run_items h N from before after =
    step_items before ++ (frames_on h N from (4 * N - from) ++ (frame_begins (4 * N) ∷ (step_items after ++ (out the_end ∷ []))))

abbrev pub items_of_run : (file : List ℕ) → List Item
items_of_run file = run_items (rows_in file) (run_frames file) 0 (start_steps file) (stop_steps file)

-- the next thing, if there is one, and what stands after it
abbrev pub next_thing : List Item → List Thing
next_thing [] = []
next_thing (pause ms ∷ items) = next_thing items
next_thing (frame_begins i ∷ items) = next_thing items
next_thing (out thing ∷ items) = thing ∷ []

abbrev pub after_next : List Item → List Item
after_next [] = []
after_next (pause ms ∷ items) = after_next items
after_next (frame_begins i ∷ items) = after_next items
after_next (out thing ∷ items) = items

-- ---- when the next thing is due

-- F: the moment of the first line of all, once it was handed out
pub data First : Type 0 where
  unknown : First
  known : (moment : ℕ) → First

-- frame i may begin from F + 30i where the run begins with frame 0, as every run does today; where it begins with frame `from`, 30 ms
-- for each frame since. While F is not known no frame is held back: the first line makes it known
abbrev pub frame_moment : (from : ℕ) (first : First) (i : ℕ) → ℕ
frame_moment from unknown i = 0
frame_moment from (known F) i = F + 30 * (i - from)

-- from the moment of the last thing on, a wait adds to the moment, and a frame's beginning holds back what stands after it. So waits
-- that stand together add up, a wait right after the last frame counts from its end or from the last line, whichever is later, and
-- what nothing holds back is due at once
abbrev pub due_from : (from : ℕ) (first : First) (moment : ℕ) → List Item → ℕ
due_from from first moment [] = moment
due_from from first moment (pause ms ∷ items) = due_from from first (moment + ms) items
due_from from first moment (frame_begins i ∷ items) = due_from from first (max moment (frame_moment from first i)) items
due_from from first moment (out thing ∷ items) = moment

-- ---- what is read from events

pub record Watch : Type 0 where
  -- the last accepted tick reading
  pub last : Tick
  -- passed time at it
  pub passed : ℕ
  -- the moment of the last thing handed out, or of the start call
  pub handed : ℕ
  pub first : First
  -- what is to come
  pub to_come : List Item

-- at an accepted start passed time is 0, and all of the run is to come
abbrev pub watch_at_start : (file : List ℕ) (tick : Tick) → Watch
watch_at_start file tick = record { last = tick; passed = 0; handed = 0; first = unknown; to_come = items_of_run file }

-- passed time at a poll: the sum of the steps, with this one
abbrev pub now_at : Watch → Tick → ℕ
now_at watch tick = watch.passed + step_from watch.last tick

-- when the next thing is due
abbrev pub due_next : (from : ℕ) → Watch → ℕ
due_next from watch = due_from from watch.first watch.handed watch.to_come

-- F is the moment of the first line; later lines leave it
abbrev pub first_line : First → (moment : ℕ) → First
first_line unknown moment = known moment
first_line (known F) moment = known F

-- whether a run is under way, and if so which slot it shows, and what was read of it
pub data Observed : Type 0 where
  no_run : Observed
  a_run : (slot : ℕ) (watch : Watch) → Observed

-- a poll's reading is accepted where the poll is; a wait answer hands nothing out and leaves what is to come; at done the run is over
abbrev pub after_answer : (slot : ℕ) → Watch → Tick → Answer → Observed
after_answer slot watch tick (answer.Refused n) = a_run slot watch
after_answer slot watch tick (answer.Wait ms) =
    a_run slot
    (record {
      last = tick;
      passed = now_at watch tick;
      handed = watch.handed;
      first = watch.first;
      to_come = watch.to_come;
    })
after_answer slot watch tick (answer.Write l) =
    a_run slot
    (record {
      last = tick;
      passed = now_at watch tick;
      handed = now_at watch tick;
      first = watch.first;
      to_come = after_next watch.to_come;
    })
after_answer slot watch tick (answer.Line l) =
    a_run slot
    (record {
      last = tick;
      passed = now_at watch tick;
      handed = now_at watch tick;
      first = first_line watch.first (now_at watch tick);
      to_come = after_next watch.to_come;
    })
after_answer slot watch tick answer.Done = no_run

abbrev pub after_poll : Observed → Tick → Given → Observed
after_poll no_run tick given = no_run
after_poll (a_run slot watch) tick (number n) = a_run slot watch
after_poll (a_run slot watch) tick (summed n held) = a_run slot watch
after_poll (a_run slot watch) tick (answered given) = after_answer slot watch tick given

-- a run is under way from an accepted start to the poll that answers done or to an accepted abandon
abbrev pub observed_by : (file : List ℕ) → Observed → Part → Given → Observed
observed_by file observed (starts slot tick) given = cond (is_accepted given) (a_run slot (watch_at_start file tick)) observed
observed_by file observed (polls tick) given = after_poll observed tick given
observed_by file observed abandons given = cond (is_accepted given) no_run observed
observed_by file observed no_part given = observed

abbrev pub observed_after : (file : List ℕ) → Observed → Event → Observed
observed_after file observed (event call memory given put) = observed_by file observed (part_of call) given

-- ---- what it is to be on time

-- a wait answer is given only before the due moment, and is exactly what is still to go: at least 1
pub record WaitsTill (now due ms : ℕ) : Type 0 where
  pub before : now < due
  pub exact : ms ≡ due - now
  pub some : 1 ≤ ms

-- the next thing goes out, for a run that shows a slot of the memory
pub record HandsNext (file memory : List ℕ) (slot : ℕ) (to_come : List Item) (given : Answer) (put : List ℕ) : Type 0 where
  pub thing : Thing
  pub next : next_thing to_come ≡ thing ∷ []
  pub answers : given ≡ thing_answer file memory slot thing
  pub puts : put ≡ thing_bytes file memory slot thing

-- a poll that was not refused, at passed time `now`
pub record OnTime (file memory : List ℕ) (slot now due : ℕ) (to_come : List Item) (given : Answer) (put : List ℕ) : Type 0 where
  -- nothing is handed out before it is due
  pub never_early : is_hand_out given ≡ true → due ≤ now
  pub waits : (ms : ℕ) → given ≡ answer.Wait ms → WaitsTill now due ms
  -- from the due moment on the next thing is handed out
  pub never_late : due ≤ now → HandsNext file memory slot to_come given put

abbrev pub AnswerOnTime : (from : ℕ) (file : List ℕ) (slot : ℕ) → Watch → (tick : Tick) (memory : List ℕ) → Given → (put : List ℕ) → Type 0
AnswerOnTime from file slot watch tick memory (number n) put = put ≡ []
AnswerOnTime from file slot watch tick memory (summed n held) put = put ≡ []
AnswerOnTime from file slot watch tick memory (answered given) put =
    answer_number given ≡ 0 → OnTime file memory slot (now_at watch tick) (due_next from watch) watch.to_come given put

-- with no run under way a poll is refused
abbrev pub PollOnTime : (from : ℕ) (file : List ℕ) → Observed → (tick : Tick) (memory : List ℕ) → Given → (put : List ℕ) → Type 0
PollOnTime from file no_run tick memory given put = is_accepted given ≡ false
PollOnTime from file (a_run slot watch) tick memory given put = AnswerOnTime from file slot watch tick memory given put

-- a call, with what was observed before it: none but a poll hands anything out
abbrev pub TimelyBy : (from : ℕ) (file : List ℕ) → Observed → Part → (memory : List ℕ) → Given → (put : List ℕ) → Type 0
TimelyBy from file observed (starts slot tick) memory given put = hands_out given ≡ false
TimelyBy from file observed (polls tick) memory given put = PollOnTime from file observed tick memory given put
TimelyBy from file observed abandons memory given put = hands_out given ≡ false
TimelyBy from file observed no_part memory given put = hands_out given ≡ false

abbrev pub Timely : (from : ℕ) (file : List ℕ) → Observed → Event → Type 0
Timely from file observed (event call memory given put) = TimelyBy from file observed (part_of call) memory given put

pub data AllTimely (from : ℕ) (file : List ℕ) : Observed → List Event → Type 0 where
  none : {observed : Observed} → AllTimely from file observed []
  more : {observed : Observed} {e : Event} {es : List Event} → Timely from file observed e
      → AllTimely from file (observed_after file observed e) es → AllTimely from file observed (e ∷ es)

-- ---- the statements

-- since an accepted start, whatever is called
abbrev pub RunOnTime : Type 0
RunOnTime =
    (state : State) (memory : List ℕ) (slot : ℕ) (tick : Tick) (calls : List Call)
    → (starting state (length memory) slot tick).number ≡ 0
    → AllTimely 0 (file_of state) (a_run slot (watch_at_start (file_of state) tick))
    (events_of (starting state (length memory) slot tick).state memory calls)

-- over every list of calls since an accepted opening: every run in it
abbrev pub HistoryOnTime : Type 0
HistoryOnTime =
    (file : List ℕ) (n : ℕ) (lent : List ℕ) (calls : List Call) → (opening file n lent).0.number ≡ 0
    → AllTimely 0 file no_run (events_of (opening file n lent).0.state (opening file n lent).1 calls)
