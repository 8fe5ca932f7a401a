-- Laws of fresh counts: what the code counts, and what a summary says of the dots.
-- Assumes nothing.
use mathlib.Core.Path.{◌≡◌, refl, sym, ap, ◌∙◌}
use mathlib.Core.Bool.{Bool, true, false, cond, false≢true}
use mathlib.Core.List.{List, [], ◌∷◌}
use Prim.Native.Nat.{ℕ, zero, suc, ◌+◌, ◌-◌, ◌*◌, ◌≤◌, ◌<◌}
use native.Mathlib.Nat.{mul-le-mul_right, add-mul}
use native.Mathlib.Omega.{arith}
use lib.Dec.{eqb}
use lib.ListN.{length, take, drop}
use Rattle.std.specs.List.{sum_by}
use borrow.Author.Tests.{eqb-true}
use Rattle.panel.specs.Dots.{dot}
use Rattle.panel.proofs.Dots.{dot_lt}
use Rattle.counting.specs.Below.{sum_below, first_below, last_below}
use Rattle.counting.proofs.Below.{sum_none, sum_term, sum_some, some_bit, sum-parts}
use Rattle.picture.specs.Slots.{picture_of}
use Rattle.picture.proofs.Regions.{slot_small}
use Rattle.summary.specs.Summaries.{black_in_row, black_dots, has_black, summary_of, empty_summary, given}
use Rattle.summary.specs.Facts.{black_in_byte, first_black, last_black}
use Rattle.std.proofs.Common.{Some, None}
use Rattle.summary.specs.declared.Span.{Span}
use Rattle.summary.proofs.Bytes.{part_black, rows_bytes}
use Rattle.summary.proofs.Rows.{row_none, row_some, some_row, row_le, none_black, Between, rows-between, found_between}

-- ---- what the code counts

module _ (b h : ℕ) (picture : List ℕ) where
  -- no dot is black
  pub blank : black_dots b h picture ≡ 0 → empty_summary ≡ summary_of b h picture
  unfolding summary_of
  blank e = rw e

  -- the black dots are those of the rows from the first to the last
  counted-rows : (first last : ℕ) → Between b h picture first last
      → sum_below (last + 1 - first) (λ i. black_in_row b picture (first + i)) ≡ black_dots b h picture
  unfolding black_dots
  counted-rows first last rows =
      let row : ℕ → ℕ = black_in_row b picture in
      let n : ℕ = last + 1 - first in
      let rest : ℕ = h - (first + n) in
      let ordered : first ≤ last = rows.ordered in
      let within : last < h = rows.within in
      let whole : first + n + rest ≡ h = omega arith in
      let above = sum_none first row (λ y l. row_none b picture y (rows.before y l)) in
      let none-under : (i : ℕ) → i < rest → row (first + n + i) ≡ 0 =
      λ i l. row_none b picture (first + n + i) (rows.after (first + n + i) (omega arith) (omega arith)) in
      let under = sum_none rest (λ i. row (first + n + i)) none-under in
      let all : sum_below (first + n + rest) row ≡ sum_below n (λ i. row (first + i)) =
      omega (arith, sum-parts (first + n) rest row, sum-parts first n row, above, under) in
      sym (rw whole at all)

module _ (b h : ℕ) (raw : List ℕ) (first last : ℕ) (top : first_black b h (picture_of b h raw) ≡ Some first)
    (bottom : last_black b h (picture_of b h raw) ≡ Some last) where
  found : Between b h (picture_of b h raw) first last
  found = found_between b h (picture_of b h raw) first last top bottom

  -- the bytes of these rows lie in the slot
  pub record Within : Type 0 where
    pub ordered : first ≤ last
    pub within : last < h
    pub many : (last + 1) * b - first * b ≡ (last + 1 - first) * b
    pub starts : first * b ≤ (last + 1) * b
    pub ends : (last + 1) * b ≤ h * b
    pub small : h * b ≤ 5808

  pub rows-within : b ≤ 33 → h ≤ 176 → Within
  rows-within narrow short =
      let ordered : first ≤ last = found.ordered in
      let within : last < h = found.within in
      let n : first + (last + 1 - first) ≡ last + 1 = omega arith in
      let e : first * b + (last + 1 - first) * b ≡ (last + 1) * b = sym (add-mul first (last + 1 - first) b) ∙ ap (λ (k : ℕ). k * b) n in
      let below : last + 1 ≤ h = omega arith in
      record {
        ordered = ordered;
        within = within;
        many = omega (arith, e);
        starts = omega (arith, e);
        ends = mul-le-mul_right b below;
        small = slot_small b h narrow short;
      }

  -- and their count is that of the whole picture
  pub counted : b ≤ 33 → h ≤ 176 → length raw ≡ h * b
      → (black : ℕ) → black ≡ sum_by black_in_byte (take ((last + 1) * b - first * b) (drop (first * b) raw))
      → record { black = black; span = given first last } ≡ summary_of b h (picture_of b h raw)
  unfolding summary_of
  counted narrow short long black e =
      let picture : List ℕ = picture_of b h raw in
      let rows = rows-within narrow short in
      let part = part_black raw (first * b) ((last + 1 - first) * b) (omega (arith, rows.many, rows.starts, rows.ends)) in
      let all : black ≡ black_dots b h picture =
      rw rows.many at e ∙ part ∙ rows_bytes b h raw first (last + 1 - first) (omega (arith, rows.ordered, rows.within)) ∙ counted-rows b h picture first last found in
      rw (all, found.some, found.first_is, found.last_is)

-- ---- what a summary says of the dots

-- a dot that does not count as black
white_dot : (d : ℕ) → d < 2 → cond (eqb d 0) 1 0 ≤ 0 → d ≡ 1
white_dot zero l e = absurd (omega arith)
white_dot (suc d) l e = omega arith

module _ (b : ℕ) (picture : List ℕ) (y : ℕ) where
  -- a row of white dots counts none
  white_row : ((x : ℕ) → x < 8 * b → dot b picture x y ≡ 1) → black_in_row b picture y ≡ 0
  unfolding black_in_row
  white_row white = sum_none (8 * b) (λ x. cond (eqb (dot b picture x y) 0) 1 0) (λ x l. rw (white x l))

  dot_counts : (x : ℕ) → x < 8 * b → cond (eqb (dot b picture x y) 0) 1 0 ≤ black_in_row b picture y
  unfolding black_in_row
  dot_counts x l = sum_term (8 * b) (λ u. cond (eqb (dot b picture u y) 0) 1 0) x l

  -- a dot of it is black
  abbrev pub BlackDot : Type 0
  BlackDot = (x : ℕ) × (x < 8 * b) × (dot b picture x y ≡ 0)

  some_dot : has_black b picture y ≡ true → BlackDot
  unfolding black_in_row
  some_dot e =
      let black = sum_some (8 * b) (λ u. cond (eqb (dot b picture u y) 0) 1 0) (some_row b picture y e) in
      let x = black.0 in
      (x, black.1, eqb-true (dot b picture x y) 0 (some_bit (eqb (dot b picture x y) 0) black.2))

module _ (b h : ℕ) (picture : List ℕ) where
  -- a picture whose count is 0 is white
  pub blank_white : (summary_of b h picture).black ≡ 0 → (x y : ℕ) → x < 8 * b → y < h → dot b picture x y ≡ 1
  unfolding summary_of
  blank_white e x y hx hy =
      white_dot (dot b picture x y) (dot_lt b picture x y) (omega (arith, dot_counts b picture y x hx, row_le b h picture y hy, e))

  -- and the summary of a white picture is empty
  pub white_blank : ((x y : ℕ) → x < 8 * b → y < h → dot b picture x y ≡ 1) → empty_summary ≡ summary_of b h picture
  white_blank white =
      blank b h picture
      (none_black b h picture
      (λ y hy. let e : black_in_row b picture y ≡ 0 = white_row b picture y (λ x hx. white x y hx hy) in rw e))

  rows_given : (first last : ℕ) → (summary_of b h picture).span ≡ given first last → Between b h picture first last
  unfolding summary_of
  rows_given first last e = go (eqb (black_dots b h picture) 0) refl e where
    f : ℕ
    f = first_below h (has_black b picture)

    l : ℕ
    l = last_below h (has_black b picture)

    go : (t : Bool) → eqb (black_dots b h picture) 0 ≡ t → cond t None (given f l) ≡ given first last → Between b h picture first last
    go true p q = let z : ◌≡◌ {A = ℕ} 0 1 = cc in absurd (omega arith)
    go false p q =
        let same : ◌≡◌ {A = Span} (record { first = f; last = l }) (record { first = first; last = last }) = cc in
        let i : f ≡ first = ap (λ (span : Span). span.first) same in
        let j : l ≡ last = ap (λ (span : Span). span.last) same in
        rw (i, j) at (rows-between b h picture p)

  -- the first and the last row have a black dot, and every black dot lies in a row from the first to the last
  pub ends_black : (first last : ℕ) → (summary_of b h picture).span ≡ given first last → BlackDot b picture first × BlackDot b picture last
  ends_black first last e =
      let rows = rows_given first last e in
      (some_dot b picture first rows.first_black, some_dot b picture last rows.last_black)

  pub black_rows : (first last : ℕ) → (summary_of b h picture).span ≡ given first last
      → (x y : ℕ) → x < 8 * b → y < h → dot b picture x y ≡ 0 → (first ≤ y) × (y ≤ last)
  black_rows first last e x y hx hy d =
      let rows = rows_given first last e in
      let c : ◌≡◌ {A = ℕ} (cond (eqb (dot b picture x y) 0) 1 0) 1 = rw d in
      let black : has_black b picture y ≡ true = row_some b picture y (omega (arith, c, dot_counts b picture y x hx)) in
      let p : y < first → ⊥ = λ m. false≢true (sym (rows.before y m) ∙ black) in
      let q : last < y → ⊥ = λ m. false≢true (sym (rows.after y m hy) ∙ black) in
      (omega arith, omega arith)

-- three rows of eight dots: none, two in the middle (the byte of document 01's worked region), and the rightmost one
pub worked : summary_of 1 3 (0xFF ∷ 0xE7 ∷ 0xFE ∷ []) ≡ record { black = 3; span = given 1 2 }
unfolding summary_of black_dots black_in_row dot
worked = refl
