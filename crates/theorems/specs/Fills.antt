-- Request 2026-02, "Bitmaps over a slow cable", over lists of calls: a fill from its begin on, however its file is cut and whatever other
-- calls stand between. Three statements: a good file ends as after one whole upload (`FillsHold`, which says of each call what it answers and
-- leaves); with no other call between, so do the state and the memory (`FillsAsWhole`); a file that the whole upload refuses with 4 gets 4,
-- from the first chunk after which the bytes so far begin no good file, or from finish, and its slot is white (`BadFilesEarn4`). Each is said
-- over every literal list of calls, and at the end of this file over calls that were made.
-- Used here: `begins_good` (crate bitmap_prefix, specs/Begins.antt; Meaning.antt there says what it means), `bitmap_good` and `read_picture`
-- (crate bitmap, specs/Bitmap.antt), `slot_of` (crate fill, specs/Fills.antt), `call_on`, `memory_after` (crate board, specs/History.antt),
-- `Parts`, `Chain`, `In` (crate board, specs/Chains.antt).
-- Assumes nothing.
use Rattle.std.specs.Prelude.{ℕ, ◌*◌, ◌≡◌, Bool, true, false, ◌&&◌, List, [], ◌∷◌, ◌++◌, map, replicate}
use Rattle.picture.specs.Slots.{slot_bytes, slot_picture}
use Rattle.bitmap.specs.Bitmap.{bitmap_good}
use Rattle.bitmap_codec.specs.Codec.{read_picture}
use Rattle.bitmap_prefix.specs.Begins.{begins_good}
use Rattle.fill.specs.Fills.{slot_of}
use Rattle.board.specs.State.{sizes_of}
use Rattle.board.specs.Calls.{bitmap_upload}
use Rattle.board.specs.History.{Call, upload_region, upload_bitmap, begin_fill, feed_fill, finish_fill, cancel_fill, start, poll, abandon, write_bitmap, summary, Event, number_given, given_by, call_on, memory_after}
use Rattle.board.specs.Chains.{Parts, Chain, In}
use Rattle.board.specs.declared.State.{State}
use Rattle.theorems.specs.Progress.{state_after}
use Rattle.bitmap_prefix.specs.Meaning.{AreBytes}

-- the bytes that a call feeds, and those that a list of calls does, one chunk after the other
abbrev pub chunk_of : Call → List ℕ
chunk_of (upload_region slot x y width height payload) = []
chunk_of (upload_bitmap slot file) = []
chunk_of (begin_fill slot) = []
chunk_of (feed_fill chunk) = chunk
chunk_of finish_fill = []
chunk_of cancel_fill = []
chunk_of (start slot tick) = []
chunk_of (poll tick out) = []
chunk_of abandon = []
chunk_of (write_bitmap slot out) = []
chunk_of (summary slot) = []

abbrev pub sent_by : List Call → List ℕ
sent_by [] = []
sent_by (call ∷ calls) = chunk_of call ++ sent_by calls

-- neither finish nor cancel
abbrev pub keeps_filling : Call → Bool
keeps_filling (upload_region slot x y width height payload) = true
keeps_filling (upload_bitmap slot file) = true
keeps_filling (begin_fill slot) = true
keeps_filling (feed_fill chunk) = true
keeps_filling finish_fill = false
keeps_filling cancel_fill = false
keeps_filling (start slot tick) = true
keeps_filling (poll tick out) = true
keeps_filling abandon = true
keeps_filling (write_bitmap slot out) = true
keeps_filling (summary slot) = true

abbrev pub all_keep_filling : List Call → Bool
all_keep_filling [] = true
all_keep_filling (call ∷ calls) = keeps_filling call && all_keep_filling calls

-- a call after a list of calls: what it was given, and what it left
abbrev pub made_after : (state : State) (memory : List ℕ) (calls : List Call) (call : Call) → Parts
made_after state memory calls call =
    let before = state_after state memory calls in
    let lent = memory_after state memory calls in
    record { state = before; memory = lent; call = call; left = call_on before lent call }

-- the number that it gave back
abbrev pub number_of : Parts → ℕ
number_of p = number_given (given_by p.left.seen)

-- ---- files and slots of a store's panel

-- bytes begin a good file, or are one; and its picture
abbrev pub begins : State → List ℕ → Bool
begins state = begins_good (sizes_of state).bytes (sizes_of state).rows (sizes_of state).stride

abbrev pub good : State → List ℕ → Bool
good state = bitmap_good (sizes_of state).bytes (sizes_of state).rows (sizes_of state).stride

abbrev pub picture_in : State → List ℕ → List ℕ
picture_in state = read_picture (sizes_of state).bytes (sizes_of state).rows (sizes_of state).stride

-- the bytes of a slot, the picture that it holds, and the picture that is all white
abbrev pub bytes_at : State → (memory : List ℕ) (slot : ℕ) → List ℕ
bytes_at state = slot_bytes (sizes_of state).bytes (sizes_of state).rows

abbrev pub picture_at : State → (memory : List ℕ) (slot : ℕ) → List ℕ
picture_at state = slot_picture (sizes_of state).bytes (sizes_of state).rows

abbrev pub white_picture : State → List ℕ
white_picture state = replicate ((sizes_of state).rows * (sizes_of state).bytes) 0xFF

-- the rows that bytes of a file make whole, over what a slot held before
abbrev pub rows_over : State → (sent held : List ℕ) → List ℕ
rows_over state = slot_of (sizes_of state).bytes (sizes_of state).rows (sizes_of state).stride

-- ---- from a begin on

-- it was accepted, on a memory of bytes
pub record Begun (begin : Parts) (slot : ℕ) : Type 0 where
  pub is_begin : begin.call ≡ begin_fill slot
  pub accepted : number_of begin ≡ 0
  pub memory_bytes : AreBytes begin.memory

-- the calls after it bring bytes, and neither finish nor cancel
pub record Filling (calls : List Call) : Type 0 where
  pub sent_bytes : AreBytes (sent_by calls)
  pub unended : all_keep_filling calls ≡ true

module _ (begin : Parts) (slot : ℕ) where
  -- a call answered this number, and the slot then holds this picture
  pub record SlotAfter (number : ℕ) (picture : List ℕ) (p : Parts) : Type 0 where
    pub answers : number_of p ≡ number
    pub holds : picture_at begin.state p.left.memory slot ≡ picture

  -- what holds of a call, where these calls have come since the begin
  pub record Filled (calls : List Call) (p : Parts) : Type 0 where
    -- the slot has the rows that came whole over what was there before
    pub so_far : begins begin.state (sent_by calls) ≡ true
        → bytes_at begin.state p.memory slot ≡ rows_over begin.state (sent_by calls) (bytes_at begin.state begin.memory slot)
    -- a chunk is taken where the bytes so far then begin a good file, and the first where they do not earns 4
    pub taken : (chunk : List ℕ) → p.call ≡ feed_fill chunk → AreBytes chunk → begins begin.state (sent_by calls ++ chunk) ≡ true
        → number_of p ≡ 0
    pub refused : (chunk : List ℕ) → p.call ≡ feed_fill chunk → AreBytes chunk
        → begins begin.state (sent_by calls) ≡ true → begins begin.state (sent_by calls ++ chunk) ≡ false
        → SlotAfter 4 (white_picture begin.state) p
    -- finish accepts a good file, whose picture the slot then holds, and gives 4 where bytes are missing
    pub finished : p.call ≡ finish_fill → good begin.state (sent_by calls) ≡ true
        → SlotAfter 0 (picture_in begin.state (sent_by calls)) p
    pub cut_short : p.call ≡ finish_fill → begins begin.state (sent_by calls) ≡ true → good begin.state (sent_by calls) ≡ false
        → SlotAfter 4 (white_picture begin.state) p
    -- a cancel leaves the slot white
    pub cancelled : p.call ≡ cancel_fill → begins begin.state (sent_by calls) ≡ true → SlotAfter 0 (white_picture begin.state) p

  -- where a file that is not good gets its 4: from the first chunk after which the bytes so far begin no good file, or from finish.
  -- `After` says of a call that it came after these calls
  pub data Earns4 (After : List Call → Parts → Type 0) (calls : List Call) : Type 0 where
    from_chunk : (before : List Call) (chunk : List ℕ) (rest : List Call) → calls ≡ before ++ (feed_fill chunk ∷ rest)
        → begins begin.state (sent_by before) ≡ true → begins begin.state (sent_by before ++ chunk) ≡ false
        → (p : Parts) → After before p → p.call ≡ feed_fill chunk → SlotAfter 4 (white_picture begin.state) p → Earns4 After calls
    from_finish : begins begin.state (sent_by calls) ≡ true
        → (p : Parts) → After calls p → p.call ≡ finish_fill → SlotAfter 4 (white_picture begin.state) p → Earns4 After calls

-- ---- over literal lists of calls

module _ (state : State) (memory : List ℕ) (slot : ℕ) where
  abbrev pub the_begin : Parts
  the_begin = made_after state memory [] (begin_fill slot)

  -- a call after the begin and other calls
  abbrev pub after_begin : (calls : List Call) (call : Call) → Parts
  after_begin = made_after the_begin.left.state the_begin.left.memory

-- whatever other calls stand between: in the end as after one whole upload
abbrev pub FillsHold : Type 0
FillsHold =
    (state : State) (memory : List ℕ) (slot : ℕ) → Begun (the_begin state memory slot) slot
    → (calls : List Call) → Filling calls → (call : Call) → Filled (the_begin state memory slot) slot calls (after_begin state memory slot calls call)

-- a file that the whole upload refuses with 4
abbrev pub BadFilesEarn4 : Type 0
BadFilesEarn4 =
    (state : State) (memory : List ℕ) (slot : ℕ) → Begun (the_begin state memory slot) slot
    → (calls : List Call) → Filling calls → good state (sent_by calls) ≡ false
    → Earns4 (the_begin state memory slot) slot (λ before p. p ≡ after_begin state memory slot before p.call) calls

-- a begin, the chunks one after the other, and finish, with no other call between: state and memory are those of the whole upload
abbrev pub fill_calls : (slot : ℕ) (chunks : List (List ℕ)) → List Call
fill_calls slot chunks = begin_fill slot ∷ (map feed_fill chunks ++ (finish_fill ∷ []))

abbrev pub FillsAsWhole : Type 0
FillsAsWhole =
    (state : State) (memory : List ℕ) (slot : ℕ) → Begun (the_begin state memory slot) slot
    → (chunks : List (List ℕ)) → AreBytes (sent_by (map feed_fill chunks)) → good state (sent_by (map feed_fill chunks)) ≡ true
    → (state_after state memory (fill_calls slot chunks) ≡ (bitmap_upload state memory slot (sent_by (map feed_fill chunks))).0.state)
    × (memory_after state memory (fill_calls slot chunks) ≡ (bitmap_upload state memory slot (sent_by (map feed_fill chunks))).1)

-- ---- over calls that were made one after the other, of which `In chain calls p` says that p is one, and these came before it. What it is
-- for a call to have been made, `Made` says: proofs/Tied.antt takes for it that the call keeps its contract, as the source has it

module _ (Made : Parts → Type 0) where
  abbrev pub FillsHoldMade : Type 0
  FillsHoldMade =
      (begin : Parts) (slot : ℕ) → Made begin → Begun begin slot
      → (events : List Event) (u : List ℕ) (chain : Chain Made begin.left.state begin.left.memory events u)
      → (calls : List Call) (p : Parts) → In chain calls p → Filling calls → Filled begin slot calls p

  abbrev pub BadFilesEarn4Made : Type 0
  BadFilesEarn4Made =
      (begin : Parts) (slot : ℕ) → Made begin → Begun begin slot
      → (events : List Event) (u : List ℕ) (chain : Chain Made begin.left.state begin.left.memory events u)
      → (calls : List Call) (p : Parts) → In chain calls p → p.call ≡ finish_fill → Filling calls → good begin.state (sent_by calls) ≡ false
      → Earns4 begin slot (In chain) calls

  -- the finish leaves what an upload of the file leaves, on the state and the memory that the begin was given
  abbrev pub FillsAsWholeMade : Type 0
  FillsAsWholeMade =
      (begin : Parts) (slot : ℕ) → Made begin → Begun begin slot
      → (events : List Event) (u : List ℕ) (chain : Chain Made begin.left.state begin.left.memory events u)
      → (chunks : List (List ℕ)) (p : Parts) → In chain (map feed_fill chunks) p → p.call ≡ finish_fill
      → AreBytes (sent_by (map feed_fill chunks)) → good begin.state (sent_by (map feed_fill chunks)) ≡ true
      → (upload : Parts) → Made upload → upload.state ≡ begin.state → upload.memory ≡ begin.memory
      → upload.call ≡ upload_bitmap slot (sent_by (map feed_fill chunks))
      → (p.left.state ≡ upload.left.state) × (p.left.memory ≡ upload.left.memory)
