-- What a store looks like to the sums of demand 3, and what it is for a call to be one move.
-- Assumes nothing.
use mathlib.Core.Path.{◌≡◌, refl, ◌∙◌}
use mathlib.Core.Bool.{Bool, true, false, cond}
use mathlib.Core.List.{List, []}
use Prim.Native.Nat.{ℕ, ◌+◌, ◌≤◌}
use native.Mathlib.Omega.{arith}
use borrow.Author.Tests.{eqb-false}
use lib.Dec.{ltb}
use Rattle.panel.specs.Dots.{dot}
use Rattle.settings.specs.Settings.{row_bytes_in, rows_in}
use Rattle.picture.specs.Slots.{slot_picture}
use Rattle.wire.specs.Reading.{pushed}
use Rattle.balance.proofs.Stores.{Dots, Place, line, all_out, next_place, View, Silent, Move}
use Rattle.balance.proofs.Stores as moves
use Rattle.run.specs.Due.{run_frames}
use Rattle.run.specs.Place.{next_position}
use Rattle.run.specs.declared.Position.{Position}
use Rattle.run.specs.declared.Position.TheVariants.{Start, Line, Stop}
use Rattle.run.specs.declared.Run.{Run}
use Rattle.run.specs.declared.Phase.{Phase}
use Rattle.run.specs.declared.Phase.TheVariants.{Idle, Abandoned, Running}
use Rattle.store.specs.Conditions.{is_runs_slot}
use Rattle.board.specs.State.{file_of}
use Rattle.board.specs.History.{Called, put_by, Standing, at_rest, under_way, abandoned, Seen, after_event}

-- ---- where the lines of a run stand

-- before the first line that one is next, after the last one all are out
abbrev pub place_of : Position → Place
place_of (Start k) = line 1 0 0
place_of (Line stage frame row) = line stage frame row
place_of (Stop k) = all_out

place_cond : (test : Bool) (p q : Position) → place_of (cond test p q) ≡ cond test (place_of p) (place_of q)
place_cond true p q = refl
place_cond false p q = refl

pub place_next : (h N stage frame row : ℕ) → place_of (next_position h N stage frame row) ≡ next_place h N stage frame row
unfolding next_position next_place
place_next h N stage frame row =
    place_cond (ltb (row + 1) h) _ _
    ∙ rw (
      place_cond (ltb (frame + 1) N) (Line stage (frame + 1) 0) (cond (ltb stage 4) (Line (stage + 1) 0 0) (Stop 0)),
      place_cond (ltb stage 4) (Line (stage + 1) 0 0) (Stop 0),
    )

-- ---- the view of a store

-- with no run, slot 0 is shown; a run leads from slot 0 to its slot; of an abandoned run the store keeps neither pictures nor place
pub data Sees (b h : ℕ) (memory : List ℕ) : Phase → View → Type 0 where
  rests : Sees b h memory Idle (moves.resting (dot b (slot_picture b h memory 0)))
  runs : {run : Run}
      → Sees b h memory (Running run)
      (moves.updating (dot b (slot_picture b h memory 0)) (dot b (slot_picture b h memory run.slot)) (place_of run.next))
  stopped : {shown new : Dots} {place : Place} → Sees b h memory Abandoned (moves.abandoned shown new place)

-- what the events say where the store is in a phase
abbrev pub standing_of : Phase → Standing
standing_of Idle = at_rest
standing_of Abandoned = abandoned
standing_of (Running run) = under_way run.slot

-- a store, what was seen of it, and its view agree
pub record Agree (b h : ℕ) (phase : Phase) (memory : List ℕ) (seen : Seen) (view : View) : Type 0 where
  pub sees : Sees b h memory phase view
  pub stands : seen.standing ≡ standing_of phase
  pub shows : slot_picture b h memory 0 ≡ seen.shown

-- from a view, with these bytes put out, one move leads to a store
pub record Leads (b h N : ℕ) (view : View) (bytes : List ℕ) (phase : Phase) (memory : List ℕ) (seen : Seen) : Type 0 where
  pub next : View
  pub move : Move b h N view bytes next
  pub agree : Agree b h phase memory seen next

-- the same with the sizes and frames that a settings file names
abbrev pub AgreeIn : (file : List ℕ) (phase : Phase) (memory : List ℕ) (seen : Seen) (view : View) → Type 0
AgreeIn file = Agree (row_bytes_in file) (rows_in file)

abbrev pub LeadsIn : (file : List ℕ) (view : View) (bytes : List ℕ) (phase : Phase) (memory : List ℕ) (seen : Seen) → Type 0
LeadsIn file = Leads (row_bytes_in file) (rows_in file) (run_frames file)

-- a call keeps the settings file, and is one move
pub record OneMove (file : List ℕ) (view : View) (seen : Seen) (called : Called) : Type 0 where
  pub file_kept : file_of called.state ≡ file
  pub leads : LeadsIn file view (put_by called.seen) called.state.store.phase called.memory
      (after_event (row_bytes_in file) (rows_in file) seen called.seen)

-- ---- calls that leave the view

module _ (b h : ℕ) where
  pub silent_none : Silent b h []
  unfolding pushed
  silent_none x y = refl

  pub stays : {N : ℕ} {phase : Phase} {memory bytes : List ℕ} {seen : Seen} {view : View} → Silent b h bytes
      → Agree b h phase memory seen view → Leads b h N view bytes phase memory seen
  stays {view = view} silent agree = record { next = view; move = moves.nothing silent; agree = agree }

  -- a slot that is neither slot 0 nor the run's may change
  pub agree_other : (phase : Phase) (memory memory' : List ℕ) (slot : ℕ) {seen : Seen} {view : View} → 1 ≤ slot
      → is_runs_slot phase slot ≡ false → ((t : ℕ) → (t ≡ slot → ⊥) → slot_picture b h memory' t ≡ slot_picture b h memory t)
      → Agree b h phase memory seen view → Agree b h phase memory' seen view
  agree_other phase memory memory' slot {seen} {view} low free same agree =
      record { sees = by_phase phase free view agree.sees; stands = agree.stands; shows = shown ∙ agree.shows }
    where
      shown : slot_picture b h memory' 0 ≡ slot_picture b h memory 0
      shown = same 0 (λ e. omega arith)

      by_phase : (p : Phase) → is_runs_slot p slot ≡ false → (v : View) → Sees b h memory p v → Sees b h memory' p v
      by_phase Idle f v rests = rw (← shown) rests
      by_phase (Running run) f v runs = rw (← shown, ← same run.slot (eqb-false run.slot slot f)) runs
      by_phase Abandoned f v stopped = stopped

-- a call that puts nothing out and leaves the view
pub no_move : (file : List ℕ) {phase : Phase} {memory : List ℕ} {seen : Seen} {view : View} → AgreeIn file phase memory seen view
    → LeadsIn file view [] phase memory seen
no_move file agree = stays (row_bytes_in file) (rows_in file) (silent_none (row_bytes_in file) (rows_in file)) agree
