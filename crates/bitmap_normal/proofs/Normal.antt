-- What was read and is written again is the normal form.
-- Assumes nothing.
use mathlib.Core.Path.{◌≡◌, sym, ap, ◌∙◌}
use mathlib.Core.Bool.{Bool, true, false, cond}
use mathlib.Core.List.{List}
use Prim.Native.Nat.{ℕ, ◌≤◌, ◌<◌}
use native.Mathlib.Omega.{arith}
use borrow.Author.Tests.{eqb-true}
use lib.Dec.{eqb}
use lib.ListN.{length}
use Rattle.std.specs.Prelude.{Option, Some, None, MatchOption, Result, Ok, Err, IfOk}
use Rattle.lists.specs.Lists.{overlay}
use Rattle.refusal.specs.declared.Refusal.{Refusal}
use Rattle.refusal.specs.declared.Refusal.TheVariants.{Bitmap}
use Rattle.lists.proofs.Rules.{and_left}
use Rattle.panel.specs.Panels.{rows_of, stride_of}
use Rattle.panel.specs.Names.{panel_code}
use Rattle.panel.specs.declared.table.Panel.{Panel}
use Rattle.panel.proofs.Panels.{each_panel, code_lt}
use Rattle.picture.specs.Slots.{picture_of, raw_of}
use Rattle.picture.proofs.Pictures.{Bytes}
use Rattle.picture.proofs.Slots.{picture_raw}
use Rattle.bitmap.specs.Header.{file_length}
use Rattle.bitmap.specs.Bitmap.{bitmap_good}
use Rattle.bitmap_codec.specs.Codec.{read_picture, written_file, normal_form}
use Rattle.bitmap_codec.proofs.RoundTrip.{rows_read, write_read}
use Rattle.bitmap_normal.specs.Normal.{normalized, IsPanelFor}

pub good_length : (b h s : ℕ) (file : List ℕ) → bitmap_good b h s file ≡ true → length file ≡ file_length h s
unfolding bitmap_good
good_length b h s file e = eqb-true _ _ (and_left (eqb (length file) (file_length h s)) _ e)

-- a bound of the file's length is one of what is written
pub normalized-le : (b h s : ℕ) (file out : List ℕ) (r : Result ℕ Refusal) (after : List ℕ) (top : ℕ) → file_length h s ≤ top
    → ◌≡◌ {A = Result ℕ Refusal × List ℕ} (r, after) (normalized b h s file out) → IfOk r (λ len. len ≤ top)
unfolding normalized
normalized-le b h s file out r after top short e = go (bitmap_good b h s file) e
  where
    go : (t : Bool)
        → ◌≡◌ {A = Result ℕ Refusal × List ℕ} (r, after)
        (cond t (Ok (file_length h s), overlay (normal_form b h s file) out) (Err Bitmap, out))
        → IfOk r (λ len. len ≤ top)
    go true q = rw (ap (λ (z : Result ℕ Refusal × List ℕ). z.0) q) short
    go false q = rw (ap (λ (z : Result ℕ Refusal × List ℕ). z.0) q) tt

-- no two panels have files of the same length
pub one_panel : (p : ℕ) → p < 3 → (q : ℕ) → q < 3 → file_length (rows_of p) (stride_of p) ≡ file_length (rows_of q) (stride_of q) → p ≡ q
one_panel =
    each_panel (λ p. (q : ℕ) → q < 3 → file_length (rows_of p) (stride_of p) ≡ file_length (rows_of q) (stride_of q) → p ≡ q)
    (each_panel (λ q. 1598 ≡ file_length (rows_of q) (stride_of q) → 0 ≡ q) (λ e. omega arith) (λ e. omega arith) (λ e. omega arith))
    (each_panel (λ q. 2750 ≡ file_length (rows_of q) (stride_of q) → 1 ≡ q) (λ e. omega arith) (λ e. omega arith) (λ e. omega arith))
    (each_panel (λ q. 6398 ≡ file_length (rows_of q) (stride_of q) → 2 ≡ q) (λ e. omega arith) (λ e. omega arith) (λ e. omega arith))

-- so a panel whose files have a length is the one that is found
pub the_panel : (len : ℕ) (found : Option Panel) → IsPanelFor len found → (p : ℕ) → p < 3 → len ≡ file_length (rows_of p) (stride_of p)
    → MatchOption found ⊥ (λ panel. panel_code panel ≡ p)
the_panel len None is p low e = is p low e
the_panel len (Some panel) is p low e = one_panel (panel_code panel) (code_lt panel) p low (sym is ∙ e)

module _ (b h s : ℕ) (pos : 0 < b) (within : b ≤ s) (file out : List ℕ) where
  pub refused : bitmap_good b h s file ≡ false → (Err Bitmap, out) ≡ normalized b h s file out
  unfolding normalized
  refused e = rw e

  pub rewritten : (raw after : List ℕ) (r : ℕ) → bitmap_good b h s file ≡ true → Bytes file → raw ≡ raw_of b h (read_picture b h s file)
      → r ≡ file_length h s → after ≡ overlay (written_file b h s (picture_of b h raw)) out
      → (Ok r, after) ≡ normalized b h s file out
  unfolding normalized
  rewritten raw after r good d e len o =
      let p = read_picture b h s file in
      let back : picture_of b h (raw_of b h p) ≡ p = picture_raw b h pos p (rows_read b h s file d) in
      rw (good, len, o, e, back, write_read b h s pos within file)
