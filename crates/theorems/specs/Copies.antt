-- Document 01, "Store and bitmaps": a picture that the writer made a bitmap file of, and that file uploaded to a slot of any store of the
-- same panel: of the same store, of another, or of the same after whatever was called in between.
-- Assumes nothing.
use Rattle.std.specs.Prelude.{ℕ, ◌≡◌, List, length, take}
use Rattle.lists.specs.Rules.{first_of}
use Rattle.panel.specs.Panels.{Sizes}
use Rattle.settings.specs.Settings.{panel_of}
use Rattle.picture.specs.Slots.{slot_picture}
use Rattle.bitmap.specs.Header.{file_length}
use Rattle.bitmap_prefix.specs.Meaning.{AreBytes}
use Rattle.board.specs.State.{file_of, sizes_of}
use Rattle.board.specs.Calls.{reply, counted, upload_cases, bitmap_upload, bitmap_write}
use Rattle.board.specs.declared.State.{State}
use Rattle.board.specs.declared.Reply.{Reply}

-- the file that the writer left at the front of its output
abbrev pub file_left : (shape : Sizes) (out : List ℕ) → List ℕ
file_left shape out = take (file_length shape.rows shape.stride) out

-- what an upload left: it is accepted, with a fresh count of its slot; the slot holds the picture of the slot that was written, and every
-- other slot is as it was
pub record Carried (shape : Sizes) (written : List ℕ) (source : ℕ) (state : State) (before : List ℕ) (slot : ℕ) (left : Reply × List ℕ) : Type 0 where
  pub accepted : left.0 ≡ reply 0 (counted shape state left.1 slot)
  pub holds : slot_picture shape.bytes shape.rows left.1 slot ≡ slot_picture shape.bytes shape.rows written source
  pub others : (t : ℕ) → (t ≡ slot → ⊥)
      → slot_picture shape.bytes shape.rows left.1 t ≡ slot_picture shape.bytes shape.rows before t

-- from any slot, slot 0 too, to any slot that takes an upload
abbrev pub FileCarries : Type 0
FileCarries =
    (state : State) (memory : List ℕ) (source : ℕ) (out : List ℕ) → AreBytes memory
    → (bitmap_write state memory source out).0.number ≡ 0
    → (other : State) (before : List ℕ) (slot : ℕ) → panel_of (file_of other) ≡ panel_of (file_of state)
    → first_of (upload_cases other (length before) slot) (λ n. n) 0 ≡ 0
    → Carried (sizes_of state) memory source other before slot
    (bitmap_upload other before slot (file_left (sizes_of state) (bitmap_write state memory source out).1))
