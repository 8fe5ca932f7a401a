-- Request 2026-11: what is promised of every call that is not refused.
-- Assumes nothing.
use Rattle.std.specs.Prelude.{◌≡◌, true, ℕ, ◌+◌, ◌-◌, ◌*◌, ◌%◌, ◌≤◌, ◌<◌, length, get_or}
use mathlib.Core.List.{List, Memᴰ}
use Rattle.lists.specs.Lists.{overlay}
use Rattle.panel.specs.Panels.{rows_of, row_bytes_of, stride_of}
use Rattle.bitmap.specs.Palettes.{palette_of, dots_of}
use Rattle.bitmap.specs.Header.{header_length, file_length}
use Rattle.bitmap.specs.Bitmap.{check_bitmap}
use Rattle.mend.specs.Mending.{elsewhere}
use Rattle.mend.specs.Changes.{offsets_in, rising, undone, without_added}
use Rattle.mend.specs.Answers.{Told, mending}

-- the length of a panel's files
abbrev pub full_length : (panel : ℕ) → ℕ
full_length panel = file_length (rows_of panel) (stride_of panel)

-- the old file, from the answer, the mended file and the list: the changes undone, and the added bytes cut off
abbrev pub restored : (answer : Told) (mended list : List ℕ) → List ℕ
restored answer mended list = without_added answer.offset answer.added (undone answer.changes list mended)

-- the answer where nothing is changed or added
abbrev pub nothing_done : Told
nothing_done = record { number = 0; changes = 0; offset = 0; added = 0 }

-- mending these bytes changes nothing, adds nothing and lists nothing
abbrev pub NothingToMend : (panel : ℕ) (file : List ℕ) → Type 0
NothingToMend panel file =
    (out list : List ℕ) → full_length panel ≤ length out → mending panel file out list ≡ (nothing_done, overlay file out, list)

-- Of a call that answered number 0 for `file`, where `mended` is the file that it put out and `list` its output for the list.
pub record Promised (panel : ℕ) (file : List ℕ) (answer : Told) (mended list : List ℕ) : Type 0 where
  -- undoing the list and cutting off the added bytes gives the old file
  pub back : restored answer mended list ≡ file
  -- the mended file passes the check
  pub passes : check_bitmap panel mended ≡ 0
  -- mending it again changes nothing more
  pub twice : NothingToMend panel mended
  -- the list is in file order, and every offset of it lies in the old file
  pub in_order : rising 0 (length file) (offsets_in answer.changes list) ≡ true
  -- a byte that is not listed is as before
  pub unlisted : (k : ℕ) → k < length file → (Memᴰ k (offsets_in answer.changes list) → ⊥) → get_or mended k 0 ≡ get_or file k 0
  -- and so is one that is in none of the four fields, and no padding
  pub only : (k : ℕ) → k < length file → elsewhere (row_bytes_of panel) (stride_of panel) k ≡ true → get_or mended k 0 ≡ get_or file k 0
  -- so that at most the bytes of those change
  pub few : answer.changes ≤ 16 + rows_of panel * (stride_of panel - row_bytes_of panel)
  -- bytes are added from the old file's end on: white dots by the file's own palette, and zero padding
  pub white : (k : ℕ) → length file ≤ k → k < full_length panel → (k - header_length) % stride_of panel < row_bytes_of panel
      → dots_of (palette_of file) (get_or mended k 0) ≡ 0xFF
  pub padding : (k : ℕ) → length file ≤ k → k < full_length panel → row_bytes_of panel ≤ (k - header_length) % stride_of panel
      → get_or mended k 0 ≡ 0
