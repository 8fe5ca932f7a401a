-- What the program makes of a file.
-- Assumes nothing.
use Rattle.std.specs.Prelude.{ℕ, ◌≡◌, ◌<◌, cond, List, Option, MatchOption, Result, Ok, Err}
use Rattle.lists.specs.Lists.{overlay}
use Rattle.panel.specs.Panels.{rows_of, stride_of}
use Rattle.panel.specs.Names.{panel_code}
use Rattle.panel.specs.declared.table.Panel.{Panel}
use Rattle.refusal.specs.declared.Refusal.{Refusal}
use Rattle.refusal.specs.declared.Refusal.TheVariants.{Bitmap}
use Rattle.bitmap.specs.Header.{file_length}
use Rattle.bitmap.specs.Bitmap.{bitmap_good}
use Rattle.bitmap_codec.specs.Codec.{normal_form}

-- a bitmap file in normal form at the front of an output, with its length; the refusal and the output as it was where the file breaks a rule
unfoldable pub normalized : (b h s : ℕ) (file out : List ℕ) → Result ℕ Refusal × List ℕ
normalized b h s file out =
    cond (bitmap_good b h s file) (Ok (file_length h s), overlay (normal_form b h s file) out) (Err Bitmap, out)

-- the panel whose files have a length, and none where no panel's have it
abbrev pub IsPanelFor : (len : ℕ) → Option Panel → Type 0
IsPanelFor len found =
    MatchOption found ((p : ℕ) → p < 3 → len ≡ file_length (rows_of p) (stride_of p) → ⊥)
    (λ panel. len ≡ file_length (rows_of (panel_code panel)) (stride_of (panel_code panel)))
