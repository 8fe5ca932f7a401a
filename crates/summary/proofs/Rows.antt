-- Laws of rows with a black dot, and of the scans for the first and the last.
-- Assumes nothing.
use mathlib.Core.Path.{◌≡◌, refl, sym, ◌∙◌}
use mathlib.Core.Bool.{Bool, true, false, cond, not}
use mathlib.Core.List.{List}
use Prim.Native.Nat.{ℕ, suc, ◌+◌, ◌-◌, ◌*◌, ◌≤◌, ◌<◌}
use native.Mathlib.Nat.{add-mul}
use native.Mathlib.Decide.{ℕ_discrete}
use native.Mathlib.Omega.{arith}
use lib.Dec.{eqb}
use lib.ListN.{length, take, drop}
use Rattle.std.specs.List.{sum_by}
use borrow.Author.Tests.{ne_eqb, eqb-true, eqb-false, not-true, not-false}
use Rattle.lists.proofs.Parts.{more_rows}
use Rattle.counting.specs.Below.{first_below, last_below}
use Rattle.counting.proofs.Below.{sum_none, sum_term, sum_some}
use Rattle.counting.proofs.Below.{first_is, first_true, first_fails, last_is, last_true, last_most, last_fails, last_lt}
use Rattle.picture.specs.Slots.{picture_of}
use Rattle.summary.specs.Summaries.{black_in_row, black_dots, has_black}
use Rattle.summary.specs.Facts.{black_in_byte, first_black, last_black}
use Rattle.std.proofs.Common.{Some, None}
use Rattle.summary.proofs.Bytes.{part_black, row_bytes}

-- ---- the rows of a picture

module _ (b : ℕ) (picture : List ℕ) (y : ℕ) where
  pub row_none : has_black b picture y ≡ false → black_in_row b picture y ≡ 0
  row_none e = eqb-true (black_in_row b picture y) 0 (not-false (eqb (black_in_row b picture y) 0) e)

  pub row_some : 0 < black_in_row b picture y → has_black b picture y ≡ true
  row_some l = rw (ne_eqb (black_in_row b picture y) 0 (λ e. absurd (omega arith)))

  pub some_row : has_black b picture y ≡ true → 0 < black_in_row b picture y
  some_row e =
      let n : black_in_row b picture y ≡ 0 → ⊥ = eqb-false (black_in_row b picture y) 0 (not-true (eqb (black_in_row b picture y) 0) e) in
      omega arith

module _ (b h : ℕ) (picture : List ℕ) where
  -- no row has a black dot, or one has
  pub none_black : ((y : ℕ) → y < h → has_black b picture y ≡ false) → black_dots b h picture ≡ 0
  unfolding black_dots
  none_black fails = sum_none h (black_in_row b picture) (λ y l. row_none b picture y (fails y l))

  pub row_le : (y : ℕ) → y < h → black_in_row b picture y ≤ black_dots b h picture
  unfolding black_dots
  row_le y l = sum_term h (black_in_row b picture) y l

  some_black : (y : ℕ) → y < h → has_black b picture y ≡ true → eqb (black_dots b h picture) 0 ≡ false
  some_black y l e = ne_eqb (black_dots b h picture) 0 (λ z. absurd (omega (arith, some_row b picture y e, row_le y l)))

  -- ---- what a scan finds

  pub first_none : ((y : ℕ) → y < h → has_black b picture y ≡ false) → None ≡ first_black b h picture
  unfolding first_black
  first_none fails = rw (none_black fails)

  pub first_found : (y : ℕ) → y < h → has_black b picture y ≡ true → ((k : ℕ) → k < y → has_black b picture k ≡ false)
      → Some y ≡ first_black b h picture
  unfolding first_black
  first_found y l e fails = rw (some_black y l e, first_is h (has_black b picture) y l e fails)

  pub last_none : ((y : ℕ) → y < h → has_black b picture y ≡ false) → None ≡ last_black b h picture
  unfolding last_black
  last_none fails = rw (none_black fails)

  pub last_found : (y : ℕ) → y < h → has_black b picture y ≡ true → ((k : ℕ) → y < k → k < h → has_black b picture k ≡ false)
      → Some y ≡ last_black b h picture
  unfolding last_black
  last_found y l e fails = rw (some_black y l e, last_is h (has_black b picture) y l e fails)

  -- nothing says that no dot is black, and a row that one is
  nothing_black : (t : Bool) (k : ℕ) → eqb (black_dots b h picture) 0 ≡ t → cond t None (Some k) ≡ None → black_dots b h picture ≡ 0
  nothing_black true k e p = eqb-true (black_dots b h picture) 0 e
  nothing_black false k e p = let z : ◌≡◌ {A = ℕ} 0 1 = cc in absurd (omega arith)

  found_black : (t : Bool) (k y : ℕ) → cond t None (Some k) ≡ Some y → (t ≡ false) × (k ≡ y)
  found_black true k y p = let z : ◌≡◌ {A = ℕ} 0 1 = cc in absurd (omega arith)
  found_black false k y p = (refl, cc)

  pub first_nothing : first_black b h picture ≡ None → black_dots b h picture ≡ 0
  unfolding first_black
  first_nothing e = nothing_black (eqb (black_dots b h picture) 0) (first_below h (has_black b picture)) refl e

  pub last_nothing : last_black b h picture ≡ None → black_dots b h picture ≡ 0
  unfolding last_black
  last_nothing e = nothing_black (eqb (black_dots b h picture) 0) (last_below h (has_black b picture)) refl e

  -- the rows that have a black dot lie from the first to the last
  pub record Between (first last : ℕ) : Type 0 where
    pub some : eqb (black_dots b h picture) 0 ≡ false
    pub first_is : first_below h (has_black b picture) ≡ first
    pub last_is : last_below h (has_black b picture) ≡ last
    pub first_black : has_black b picture first ≡ true
    pub last_black : has_black b picture last ≡ true
    pub ordered : first ≤ last
    pub within : last < h
    pub before : (y : ℕ) → y < first → has_black b picture y ≡ false
    pub after : (y : ℕ) → last < y → y < h → has_black b picture y ≡ false

  pub rows-between : eqb (black_dots b h picture) 0 ≡ false → Between (first_below h (has_black b picture)) (last_below h (has_black b picture))
  unfolding black_dots
  rows-between some =
      let test = has_black b picture in
      let n : black_dots b h picture ≡ 0 → ⊥ = eqb-false (black_dots b h picture) 0 some in
      let row = sum_some h (black_in_row b picture) (omega arith) in
      let y = row.0 in
      let l : y < h = row.1 in
      let e : test y ≡ true = row_some b picture y row.2 in
      let first = first_true h test y l e in
      record {
        some = some;
        first_is = refl;
        last_is = refl;
        first_black = first.1;
        last_black = last_true h test y l e;
        ordered = omega (arith, first.0, last_most h test y l e);
        within = last_lt h test (omega arith);
        before = λ k m. first_fails h test k (omega (arith, first.0)) m;
        after = λ k m q. last_fails h test k q m;
      }

  pub found_between : (first last : ℕ) → first_black b h picture ≡ Some first → last_black b h picture ≡ Some last → Between first last
  unfolding first_black last_black
  found_between first last p q =
      let black = eqb (black_dots b h picture) 0 in
      let f = found_black black (first_below h (has_black b picture)) first p in
      let l = found_black black (last_below h (has_black b picture)) last q in
      rw (f.1, l.1) at (rows-between f.0)

-- ---- by the bytes of a slot

-- the bytes of a row
module _ (b h : ℕ) (raw : List ℕ) (y : ℕ) (low : y < h) (long : length raw ≡ h * b) where
  abbrev row : List ℕ
  row = take ((y + 1) * b - y * b) (drop (y * b) raw)

  -- it has a black dot where these have one
  row_has : not (eqb (sum_by black_in_byte row) 0) ≡ has_black b (picture_of b h raw) y
  row_has =
      let n : (y + 1) * b - y * b ≡ b = omega (arith, add-mul y 1 b) in
      rw (n, part_black raw (y * b) b (omega (arith, more_rows y h b low)), row_bytes b h raw y low)

  pub row_white : sum_by black_in_byte row ≡ 0 → has_black b (picture_of b h raw) y ≡ false
  row_white e = sym row_has ∙ rw e

  pub row_black : false ≡ eqb (sum_by black_in_byte row) 0 → has_black b (picture_of b h raw) y ≡ true
  row_black e = sym row_has ∙ rw (sym e)

-- ---- the rows that a scan from the bottom up has passed

pub fails_before : (test : ℕ → Bool) (n y m : ℕ) → m ≡ suc y → ((k : ℕ) → m ≤ k → k < n → test k ≡ false) → test y ≡ false
    → (k : ℕ) → y ≤ k → k < n → test k ≡ false
fails_before test n y m next fails e k l h =
    elim (ℕ_discrete k y) [
      | yes q ↦ rw q e
      | no d ↦ fails k (omega arith) h
    ]
