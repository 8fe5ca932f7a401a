-- Laws of the answer: each refusal, and the mended file and its list where none applies.
-- Assumes nothing.
use Rattle.std.proofs.Common.{Option}
use mathlib.Core.Path.{◌≡◌}
use mathlib.Core.Bool.{true, false}
use mathlib.Core.List.{List}
use Prim.Native.Nat.{ℕ, ◌*◌, ◌≤◌, ◌<◌}
use borrow.Author.Tests.{leb-true, lt-ltb, le-ltb}
use lib.ListN.{length}
use Rattle.lists.specs.Lists.{tabulate, overlay}
use Rattle.lists.proofs.Rules.{holds}
use Rattle.panel.specs.Panels.{is_panel, rows_of, row_bytes_of, stride_of}
use Rattle.bitmap.specs.declared.Palette.{Palette}
use Rattle.bitmap.specs.Palettes.{palette_of}
use Rattle.bitmap.specs.Header.{header_length, file_length}
use Rattle.mend.specs.Mending.{mendable, mended_header, white_byte, byte_by, mended_byte}
use Rattle.mend.specs.Changes.{changed, listed}
use Rattle.mend.specs.Answers.{Told, changes, refusal, acceptance, mending_of, mending}
use Rattle.mend.proofs.Fields.{mend_tests}

-- what a file that can be mended has
pub record Lengths (h s len : ℕ) : Type 0 where
  pub long : header_length ≤ len
  pub short : len ≤ file_length h s

pub lengths : (b h s : ℕ) (file : List ℕ) → mendable b h s file ≡ true → Lengths h s (length file)
unfolding mendable
lengths b h s file e =
    let tests = mend_tests b h s file in
    record {
      long = leb-true header_length (length file) (holds 0 tests e);
      short = leb-true (length file) (file_length h s) (holds 1 tests e);
    }

-- the rule by a header and a byte that were made before
pub same_rule : (b h s : ℕ) (file : List ℕ) {header : List ℕ} {white : ℕ} {palette : Option Palette} → header ≡ mended_header b h s file
    → white ≡ white_byte palette → palette ≡ palette_of file → byte_by b s header white file ≡ mended_byte b h s file
same_rule b h s file e f g = rw (e, f, g)

module _ (b h s : ℕ) (file out list : List ℕ) where
  pub not-mendable : mendable b h s file ≡ false → (refusal 4, out, list) ≡ mending_of b h s file out list
  unfolding mending_of
  not-mendable e = rw e

  module _ (good : mendable b h s file ≡ true) where
    pub short_output : length out < file_length h s → (refusal 11, out, list) ≡ mending_of b h s file out list
    unfolding mending_of
    short_output l = rw (good, lt-ltb (length out) (file_length h s) l)

    module _ (room : file_length h s ≤ length out) (rule : ℕ → ℕ) (same : rule ≡ mended_byte b h s file) where
      pub short_list : (n : ℕ) → n ≡ length (changed file rule (length file)) → length list < 4 * n
          → (refusal 11, out, list) ≡ mending_of b h s file out list
      unfolding mending_of
      short_list n e l =
          let m : length list < 4 * length (changes b h s file) = rw (e, same) at l in
          rw (good, le-ltb (length out) (file_length h s) room, lt-ltb (length list) (4 * length (changes b h s file)) m)

      pub mended : {r : Told} {out' list' : List ℕ} (n : ℕ) → n ≡ length (changed file rule (length file)) → 4 * n ≤ length list
          → r ≡ acceptance (file_length h s) (length file) n → out' ≡ overlay (tabulate (file_length h s) rule) out
          → list' ≡ overlay (listed file rule (changed file rule (length file))) list → (r, out', list') ≡ mending_of b h s file out list
      unfolding mending_of
      mended n e l p q t =
          let m : 4 * length (changes b h s file) ≤ length list = rw (e, same) at l in
          rw (p, q, t, e, same, good, le-ltb (length out) (file_length h s) room, le-ltb (length list) (4 * length (changes b h s file)) m)

-- the panel is asked first
pub no_panel : (panel : ℕ) (file out list : List ℕ) → is_panel panel ≡ false → (refusal 14, out, list) ≡ mending panel file out list
unfolding mending
no_panel panel file out list e = rw e

pub of_panel : (panel : ℕ) (file out list : List ℕ) {b h s : ℕ} → is_panel panel ≡ true → b ≡ row_bytes_of panel → h ≡ rows_of panel
    → s ≡ stride_of panel → mending_of b h s file out list ≡ mending panel file out list
unfolding mending
of_panel panel file out list e p q t = rw (e, p, q, t)
