-- When the next thing is due, place by place.
-- Assumes nothing.
use Rattle.std.proofs.Common.{◌≡◌, ℕ, ◌+◌, ◌-◌, ◌<◌, ◌≤◌, Bool, true, false, leb, List, sym, refl, ap, ◌∙◌, arith, eq-eqb, ne_eqb, le-leb, leb-false, leb-true}
use borrow.Author.Tests.{lt-leb}
use Rattle.run.specs.Place.{frame_number}
use Rattle.run.specs.Due.{run_frames, frame_due, due_at, due_of}
use Rattle.run.specs.Conditions.{place_valid}
use Rattle.run.specs.Facts.{Ready}
use Rattle.run.specs.declared.Passed.{Passed}
use Rattle.run.specs.declared.Position.{Position}
use Rattle.run.specs.declared.Position.TheVariants.{Line}
use Rattle.run.specs.declared.Run.{Run}

-- a moment is reached where the time up to it is gone
elapsed_as : (first ms t : ℕ) (b : Bool) → first ≤ t → leb ms (t - first) ≡ b → leb ms (t - first) ≡ leb (first + ms) t
elapsed_as first ms t true h e = let l : ms ≤ t - first = leb-true _ _ e in e ∙ sym (le-leb (first + ms) t (omega arith))
elapsed_as first ms t false h e = let l : t - first < ms = leb-false _ _ e in e ∙ sym (lt-leb (first + ms) t (omega arith))

pub elapsed : (first ms t : ℕ) → first ≤ t → leb ms (t - first) ≡ leb (first + ms) t
elapsed first ms t h = elapsed_as first ms t (leb ms (t - first)) h refl

module _ (file : List ℕ) (run : Run) where
  pub due_here : {place : Position} → run.next ≡ place → due_of file run ≡ due_at file run place
  unfolding due_of
  due_here e = ap (due_at file run) e

  pub ready_here : {place : Position} {moment : Passed} → run.next ≡ place → Ready file run run.next moment
      → Ready file run place moment
  ready_here e ready = record { valid = sym (ap (place_valid file run) e) ∙ ready.valid; order = ready.order }

  -- the first line of a frame, and a later one
  pub due_frame : (stage frame row : ℕ) → row ≡ 0
      → due_at file run (Line stage frame row) ≡ frame_due run.first.0 (frame_number (run_frames file) stage frame)
  due_frame stage frame row e = rw (eq-eqb row 0 e)

  pub due_later : (stage frame row : ℕ) → (row ≡ 0 → ⊥) → due_at file run (Line stage frame row) ≡ run.handed.0
  due_later stage frame row d = rw (ne_eqb row 0 d)
