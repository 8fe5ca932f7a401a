-- Request 2026-11: the answer of mending and the bytes of both outputs after it, on any input.
-- Assumes nothing.
use Rattle.std.specs.Prelude.{ℕ, ◌-◌, ◌*◌, cond, not, List, [], ◌∷◌, ltb, length, Option, Some, None, Result, Ok, Err}
use Rattle.lists.specs.Lists.{overlay}
use Rattle.lists.specs.Rules.{Case, case, first_of}
use Rattle.panel.specs.Panels.{is_panel, rows_of, row_bytes_of, stride_of}
use Rattle.bitmap.specs.Header.{file_length}
use Rattle.mend.specs.Mending.{mendable, mended_byte, mended_file}
use Rattle.mend.specs.Changes.{changed, listed}
use Rattle.refusal.specs.Numbers.{number_of}
use Rattle.refusal.specs.declared.Refusal.{Refusal}
use Rattle.mend.specs.declared.answer.Mended.{Mended}
use Rattle.mend.specs.declared.answer.Added.{Added}

-- an answer in four numbers: that of the refusal or 0, how many bytes changed, and the offset and the count of those that were added, 0 and
-- 0 where none were
pub record Told : Type 0 where
  pub number : ℕ
  pub changes : ℕ
  pub offset : ℕ
  pub added : ℕ

-- the indexes of the file's changed bytes
abbrev pub changes : (b h s : ℕ) (file : List ℕ) → List ℕ
changes b h s file = changed file (mended_byte b h s file) (length file)

-- their list
abbrev pub change_list : (b h s : ℕ) (file : List ℕ) → List ℕ
change_list b h s file = listed file (mended_byte b h s file) (changes b h s file)

abbrev pub refusal : (number : ℕ) → Told
refusal number = record { number = number; changes = 0; offset = 0; added = 0 }

-- 0, how many bytes changed, and the offset and the count of those that were added, 0 and 0 where none were
abbrev pub acceptance : (full len changes : ℕ) → Told
acceptance full len changes =
    record { number = 0; changes = changes; offset = cond (ltb len full) len 0; added = full - len }

-- the four numbers of what the code answers
abbrev pub offset_of : Option Added → ℕ
offset_of (Some added) = added.offset
offset_of None = 0

abbrev pub count_of : Option Added → ℕ
count_of (Some added) = added.count
count_of None = 0

abbrev pub told_by : Result Mended Refusal → Told
told_by (Ok mended) =
    record { number = 0; changes = mended.changes; offset = offset_of mended.added; added = count_of mended.added }
told_by (Err e) = refusal (number_of e)

-- 4 for the file, then 11 for an output shorter than the mended file or than the list
abbrev pub mend_cases : (b h s : ℕ) (file : List ℕ) (out_length list_length : ℕ) → List Case
mend_cases b h s file out_length list_length =
    case (not (mendable b h s file)) 4
    ∷ case (ltb out_length (file_length h s)) 11
    ∷ case (ltb list_length (4 * length (changes b h s file))) 11
    ∷ []

-- a refusal leaves both outputs; else the mended file and the list stand at their fronts
unfoldable pub mending_of : (b h s : ℕ) (file out list : List ℕ) → Told × List ℕ × List ℕ
mending_of b h s file out list =
    first_of (mend_cases b h s file (length out) (length list))
    (λ number. (refusal number, out, list)) (
      acceptance (file_length h s) (length file) (length (changes b h s file)),
      overlay (mended_file b h s file) out,
      overlay (change_list b h s file) list,
    )

-- 14 for the panel comes first
unfoldable pub mending : (panel : ℕ) (file out list : List ℕ) → Told × List ℕ × List ℕ
mending panel file out list =
    first_of (case (not (is_panel panel)) 14 ∷ [])
    (λ number. (refusal number, out, list))
    (mending_of (row_bytes_of panel) (rows_of panel) (stride_of panel) file out list)
