-- Laws of whole rows, taken in straight from where they stand in a chunk.
-- Assumes nothing.
use Rattle.std.proofs.Common.{Option}
use mathlib.Core.Path.{◌≡◌, sym, ap, ◌∙◌}
use mathlib.Core.List.{List}
use Prim.Native.Nat.{ℕ, suc, ◌+◌, ◌-◌, ◌*◌, ◌≤◌, ◌<◌}
use native.Mathlib.Nat.{add-mul, suc-mul}
use native.Mathlib.Numerals.{add-one}
use native.Mathlib.Omega.{arith}
use borrow.Author.Tests.{ne_eqb}
use lib.ListN.{length, take, drop, length-drop, length-replicate}
use lib.Seq.{take-append-le, take-take, take-add, length-take-le}
use Rattle.lists.specs.Lists.{overlay_at}
use Rattle.bitmap.specs.Header.{header_length, file_length}
use Rattle.bitmap.specs.declared.Palette.{Palette}
use Rattle.fill.specs.Fills.{fill_with, none_kept, rows_come, kept_count}
use Rattle.fill.specs.Feeding.{with_row, completed, bytes_fed}
use Rattle.fill.specs.declared.Fill.{Fill}
use Rattle.fill.proofs.Pieces.{count_row, count_in, rows_in_lem, rows_few, part_row, row_of, whole-fed, bytes_piece, bytes_parts}

-- where a row begins
pub at_row : (s came : ℕ) → 0 < s → header_length ≤ came → kept_count s came ≡ 0 → came ≡ header_length + rows_come s came * s
at_row s came some l z = omega (arith, row_of s came some l, count_row s came l)

-- n rows more are no more than there are
pub rows_room : (h s came n : ℕ) → 0 < s → came ≡ header_length + rows_come s came * s → came + n * s ≤ file_length h s
    → rows_come s came + n ≤ h
rows_room h s came n some at l =
    let j : ℕ = rows_come s came in
    let e : came + n * s ≡ header_length + ((j + n) * s + 0) = omega (arith, at, add-mul j n s) in
    let r : rows_come s (came + n * s) ≡ j + n = ap (rows_come s) e ∙ rows_in_lem s (j + n) 0 some in
    omega (arith, r, rows_few h s (came + n * s) some l)

module _ (b h s slot : ℕ) (palette : Option Palette) where
  -- a fill that stands where a row begins
  abbrev before : (came : ℕ) → Fill
  before came = fill_with slot came palette none_kept

  -- no row
  pub rows_none : (came : ℕ) (rows raw : List ℕ) → (before (came + 0), raw) ≡ bytes_fed b h s (before came, raw) (take 0 rows)
  rows_none came rows raw = let e : came + 0 ≡ came = omega arith in rw e

  module _ (within : b ≤ s) (some : 0 < s) (near : s ≤ header_length) where
    -- one row
    row_fed : (j came : ℕ) → came ≡ header_length + j * s → (rows raw : List ℕ) → s ≤ length rows
        → bytes_fed b h s (before came, raw) (take s rows) ≡ (before (came + s), with_row b h palette (h - suc j) rows raw)
    unfolding completed
    row_fed j came at rows raw room =
        let row : List ℕ = take s rows in
        let is : length row ≡ s = length-take-le s rows room in
        let from : came ≡ header_length + (j * s + 0) = omega arith in
        let to : came + length row ≡ header_length + (suc j * s + 0) = omega (arith, suc-mul j s) in
        let none : kept_count s came ≡ 0 = ap (kept_count s) from ∙ count_in s j 0 some in
        let whole : kept_count s (came + length row) ≡ 0 = ap (kept_count s) to ∙ count_in s (suc j) 0 some in
        let count : rows_come s (came + length row) ≡ suc j = ap (rows_come s) to ∙ rows_in_lem s (suc j) 0 some in
        let other : (came + length row ≡ header_length → ⊥) = λ e. absurd (omega (arith, e)) in
        let dots : take b (overlay_at 0 row none_kept) ≡ take b rows =
        take-append-le b row (drop (length row) none_kept) (omega arith) ∙ take-take b s rows within in
        bytes_piece b h s some near row (before came) raw (omega arith) (length-replicate {A = ℕ} header_length 0)
        (omega (arith, none, part_row s came (omega arith)))
        ∙ whole-fed b h s some near (before came) raw row whole
        ∙ rw (ne_eqb (came + length row) header_length other, count, none, dots, is)

    -- a turn of the loop: one row more
    pub row_next : (j came : ℕ) → came ≡ header_length + j * s → (rows : List ℕ) (k : ℕ) → k * s + s ≤ length rows
        → (raw₀ raw next : List ℕ) → (before (came + k * s), raw) ≡ bytes_fed b h s (before came, raw₀) (take (k * s) rows)
        → (y : ℕ) → y ≡ h - suc (j + k) → next ≡ with_row b h palette y (drop (k * s) rows) raw
        → (before (came + (k + 1) * s), next) ≡ bytes_fed b h s (before came, raw₀) (take ((k + 1) * s) rows)
    row_next j came at rows k room raw₀ raw next e y up put =
        let f : (k + 1) * s ≡ k * s + s = rw add-one (suc-mul k s) in
        let g : came + k * s + s ≡ came + (k * s + s) = omega arith in
        let here : came + k * s ≡ header_length + (j + k) * s = omega (arith, add-mul j k s) in
        let row : bytes_fed b h s (before (came + k * s), raw) (take s (drop (k * s) rows)) ≡ (before (came + (k * s + s)), next) =
        row_fed (j + k) (came + k * s) here (drop (k * s) rows) raw (rw length-drop (omega arith)) ∙ rw (g, ← up, ← put) in
        rw (f, take-add (k * s) s rows)
        (sym
        (bytes_parts b h s (before came, raw₀) (take (k * s) rows) (take s (drop (k * s) rows))
        ∙ ap (λ (t : Fill × List ℕ). bytes_fed b h s t (take s (drop (k * s) rows))) (sym e)
        ∙ row))
