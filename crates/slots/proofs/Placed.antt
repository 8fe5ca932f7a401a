-- What an upload puts into a slot, by its number.
-- Assumes nothing.
use mathlib.Core.Path.{◌≡◌, refl, sym, ap, ◌∙◌}
use mathlib.Core.Bool.{true, false, not}
use mathlib.Core.List.{List}
use Prim.Native.Nat.{ℕ, ◌-◌, ◌≤◌, ◌<◌}
use native.Mathlib.Nat.{zero-div}
use native.Mathlib.Omega.{arith}
use borrow.Author.Tests.{ne_eqb, eqb-true}
use lib.Dec.{eqb}
use lib.ListN.{length}
use Rattle.lists.specs.Rules.{Case, first_of}
use Rattle.lists.proofs.Rules.{and_left, taken, some_number, none_of}
use Rattle.panel.specs.Panels.{Sizes}
use Rattle.picture.specs.Regions.{region_cases}
use Rattle.bitmap.specs.Header.{header_length, file_length}
use Rattle.bitmap.specs.Bitmap.{bitmap_good}
use Rattle.fill.specs.Fills.{rows_come}
use Rattle.fill.specs.declared.Fill.{Fill}
use Rattle.fill_calls.specs.declared.Fed.{Fed}
use Rattle.slots.specs.Slots.{region_drawn, bitmap_drawn, chunk_writes}
use Rattle.slots.specs.Facts.{bitmap_placed, region_placed}

module _ (shape : Sizes) (memory : List ℕ) (slot : ℕ) (file : List ℕ) where
  pub bitmap_4 : bitmap_good shape.bytes shape.rows shape.stride file ≡ false → (4, memory) ≡ bitmap_placed shape memory slot file
  bitmap_4 e = rw e

  module _ (good : bitmap_good shape.bytes shape.rows shape.stride file ≡ true) where
    pub bitmap_room : file_length shape.rows shape.stride ≤ length file
    unfolding bitmap_good
    bitmap_room =
        let e : length file ≡ file_length shape.rows shape.stride = eqb-true _ _ (and_left _ _ good) in
        omega arith

    pub bitmap_0 : {after : List ℕ} → after ≡ bitmap_drawn shape memory slot file → (0, after) ≡ bitmap_placed shape memory slot file
    bitmap_0 {after} e = ap (λ (l : List ℕ). (0, l)) e ∙ rw good

module _ (shape : Sizes) (memory : List ℕ) (slot x y width height : ℕ) (payload : List ℕ) {r : ℕ}
    (is : r ≡ first_of (region_cases shape.bytes shape.rows x y width height payload) (λ n. n) 0) where
  abbrev own : List Case
  own = region_cases shape.bytes shape.rows x y width height payload

  pub region_refused : (r ≡ 0 → ⊥) → (r, memory) ≡ region_placed shape memory slot x y width height payload
  region_refused = some_number own (λ n. (n, memory)) (0, region_drawn shape memory slot x y width height payload) is

  pub region_accepted : r ≡ 0 → {after : List ℕ} → after ≡ region_drawn shape memory slot x y width height payload
      → (0, after) ≡ region_placed shape memory slot x y width height payload
  region_accepted z {after} e =
      ap (λ (l : List ℕ). (0, l)) e
      ∙ sym (taken own (λ n. (n, memory)) (0, region_drawn shape memory slot x y width height payload) (none_of own refl is z))
