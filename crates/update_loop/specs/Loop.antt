-- What the loop of `show` and the calls that are exported answer and leave, on any input. They make calls on a store one after
-- another, each on the state and the memory that the one before left. The bus and the clock are simulated: what a poll puts out stands
-- on the bus, one thing after another, and a wait moves the tick.
-- Assumes nothing.
use Rattle.std.specs.Prelude.{ℕ, zero, suc, ◌+◌, ◌-◌, ◌/◌, ◌%◌, ◌^◌, cond, List, [], ◌∷◌, ◌++◌, length, take, drop, nat_le}
use Rattle.run.specs.declared.Tick.{Tick}
use Rattle.poll.specs.declared.Answer.{Answer}
use Rattle.poll.specs.declared.Answer.TheVariants.{Refused, Write, Line, Wait, Done}
use Rattle.board.specs.declared.State.{State}
use Rattle.board.specs.declared.Reply.{Reply}
use Rattle.board.specs.Calls.{opening, region_upload, bitmap_upload, fill_begin, fill_feed, fill_finish, starting, Polling, polled}

-- the most polls that the loop makes: more than any run takes
abbrev pub enough : ℕ
enough = 20000

abbrev pub tick_of : ℕ → Tick
tick_of reading = record { 0 = reading }

-- where the loop stands between two polls; the next thing goes to index `at` of the bus
pub record Showing : Type 0 where
  pub state : State
  pub tick : ℕ
  pub memory : List ℕ
  pub bus : List ℕ
  pub at : ℕ

abbrev pub showing : (state : State) (tick : ℕ) (memory bus : List ℕ) (at : ℕ) → Showing
showing state tick memory bus at = record { state = state; tick = tick; memory = memory; bus = bus; at = at }

-- the index n bytes after `at`, or the end of the bytes where that is less
abbrev pub index_after : (bytes : List ℕ) (at n : ℕ) → ℕ
index_after bytes at n = cond (nat_le (at + n) (length bytes)) (at + n) (length bytes)

-- n bytes more have gone to the panel
abbrev pub sent : (n : ℕ) → Showing → Showing
sent n s = showing s.state s.tick s.memory s.bus (index_after s.bus s.at n)

-- some ms have passed; the tick wraps
abbrev pub slept : (ms : ℕ) → Showing → Showing
slept ms s = showing s.state ((s.tick + ms) % 2 ^ 32) s.memory s.bus s.at

-- a poll, whose output is the bus from index `at` on; and where the loop stands after it
abbrev pub poll_of : Showing → Polling
poll_of s = polled s.state (tick_of s.tick) s.memory (drop s.at s.bus)

abbrev pub after_poll : Showing → Polling → Showing
after_poll s p = showing p.state s.tick p.memory (take s.at s.bus ++ p.out) s.at

-- how many bytes went to the panel, or 0 where the run was not done; the memory and the bus afterwards
abbrev pub Update : Type 0
Update = ℕ × List ℕ × List ℕ

abbrev pub ended : (answer : ℕ) → Showing → Update
ended answer s = (answer, s.memory, s.bus)

-- after a poll, by its answer: on with the loop, or the end
abbrev pub go_on : (loop : Showing → Update) → Showing → Answer → Update
go_on loop s (Write n) = loop (sent n s)
go_on loop s (Line n) = loop (sent n s)
go_on loop s (Wait ms) = loop (slept ms s)
go_on loop s Done = ended s.at s
go_on loop s (Refused number) = ended 0 s

-- the loop, with `left` polls left
unfoldable pub shown : (left : ℕ) → Showing → Update
shown zero s = ended 0 s
shown (suc left) s = go_on (shown left) (after_poll s (poll_of s)) (poll_of s).answer

-- `show`: a run of slot 1 is started at tick 0 and polled until it is done
abbrev pub slot_shown : (state : State) (memory bus : List ℕ) → Update
slot_shown state memory bus = shown enough (showing (starting state (length memory) 1 (tick_of 0)).state 0 memory bus 0)

-- ---- a file in chunks

-- how many chunks of `size` bytes n bytes make, of which the last may be shorter; a number over 0 is 0, so with a size of 0 none
abbrev pub chunk_count : (size n : ℕ) → ℕ
chunk_count size n = (n + (size - 1)) / size

-- the first chunks of a file, and all of them
unfoldable pub first_chunks : (count size : ℕ) (file : List ℕ) → List (List ℕ)
first_chunks zero size file = []
first_chunks (suc count) size file = take size file ∷ first_chunks count size (drop size file)

abbrev pub chunks_of : (size : ℕ) (file : List ℕ) → List (List ℕ)
chunks_of size file = first_chunks (chunk_count size (length file)) size file

-- chunks are fed one after another, whatever each call answers
unfoldable pub fed_all : (chunks : List (List ℕ)) (state : State) (memory : List ℕ) → State × List ℕ
fed_all [] state memory = (state, memory)
fed_all (chunk ∷ chunks) state memory =
    let fed = fill_feed state memory chunk in
    fed_all chunks fed.0.state fed.1

-- ---- what is exported: a store of slots 0 and 1 is opened, a bitmap or a region is uploaded to slot 1, or a fill of it is begun, fed
-- and finished

abbrev pub bitmap_stored : (settings bitmap memory : List ℕ) → Reply × List ℕ
bitmap_stored settings bitmap memory =
    let opened = opening settings 1 memory in
    bitmap_upload opened.0.state opened.1 1 bitmap

abbrev pub region_stored : (settings : List ℕ) (x y width height : ℕ) (payload memory : List ℕ) → Reply × List ℕ
region_stored settings x y width height payload memory =
    let opened = opening settings 1 memory in
    region_upload opened.0.state opened.1 1 x y width height payload

abbrev pub fill_stored : (settings bitmap : List ℕ) (size : ℕ) (memory : List ℕ) → Reply × List ℕ
fill_stored settings bitmap size memory =
    let opened = opening settings 1 memory in
    let begun = fill_begin opened.0.state (length opened.1) 1 in
    let fed = fed_all (chunks_of size bitmap) begun.state opened.1 in
    fill_finish fed.0 fed.1

-- these and `store_opening` answer the number of the last call
abbrev pub numbered : Reply × List ℕ → ℕ × List ℕ
numbered last = (last.0.number, last.1)

-- `store_update` shows the bitmap
abbrev pub updated : (settings bitmap memory bus : List ℕ) → Update
updated settings bitmap memory bus =
    let uploaded = bitmap_stored settings bitmap memory in
    slot_shown uploaded.0.state uploaded.1 bus
