-- Laws of pieces: the bytes of a chunk that are of one header or row, taken in at once, are those bytes taken in one after the other.
-- Assumes nothing.
use mathlib.Core.Path.{◌≡◌, refl, sym, ap, ◌∙◌}
use mathlib.Core.Bool.{cond}
use mathlib.Core.List.{List, [], ◌∷◌, ◌++◌}
use Prim.Native.Nat.{ℕ, suc, ◌+◌, ◌-◌, ◌*◌, ◌/◌, ◌%◌, ◌≤◌, ◌<◌}
use native.Mathlib.Nat.{mod-lt, div-lt_iff_lt-mul, div-add-mod', suc-mul}
use native.Mathlib.Omega.{arith}
use native.Mathlib.Decide.{dec_lt, ℕ_discrete}
use borrow.Author.Tests.{lt-ltb, le-ltb, eq-eqb, ne_eqb}
use lib.Arith.{digits_div, digits_mod}
use lib.Dec.{eqb}
use lib.ListN.{length, take, drop, length-append, take-append-drop}
use Rattle.lists.proofs.Lists.{overlay_at_next, length-overlay_at}
use Rattle.bitmap.specs.Header.{header_length, file_length}
use Rattle.fill.specs.Fills.{rows_come, kept_count}
use Rattle.fill.specs.Feeding.{keeping, completed, piece_fed, bytes_fed}
use Rattle.fill.specs.Facts.{part_length}
use Rattle.fill.specs.declared.Fill.{Fill}

-- ---- how many bytes of a header or row have come, and how many it has

module _ (s came : ℕ) where
  pub count_header : came < header_length → kept_count s came ≡ came
  count_header l = rw (lt-ltb came header_length l)

  pub count_row : header_length ≤ came → kept_count s came ≡ (came - header_length) % s
  count_row l = rw (le-ltb came header_length l)

  pub part_header : came < header_length → part_length s came ≡ header_length
  part_header l = rw (lt-ltb came header_length l)

  pub part_row : header_length ≤ came → part_length s came ≡ s
  part_row l = rw (le-ltb came header_length l)

-- a row, with k of its bytes
module _ (s j k : ℕ) (part : k < s) where
  pub count_in : kept_count s (header_length + (j * s + k)) ≡ k
  count_in =
      let e : header_length + (j * s + k) - header_length ≡ j * s + k = omega arith in
      count_row s (header_length + (j * s + k)) (omega arith) ∙ rw e (digits_mod j part)

  pub rows_in_lem : rows_come s (header_length + (j * s + k)) ≡ j
  rows_in_lem = let e : header_length + (j * s + k) - header_length ≡ j * s + k = omega arith in rw e (digits_div j part)

module _ (s came : ℕ) (some : 0 < s) where
  -- where a byte of the rows stands
  pub row_of : header_length ≤ came → came ≡ header_length + ((came - header_length) / s * s + (came - header_length) % s)
  row_of l = let e = div-add-mod' (came - header_length) s in omega (arith, e)

  pub row_part : (came - header_length) % s < s
  row_part = mod-lt (came - header_length) some

  pub count_lt : kept_count s came < part_length s came
  count_lt =
      elim (dec_lt came header_length) [
        | yes q ↦ rw (lt-ltb came header_length q) q
        | no q ↦ let l : header_length ≤ came = omega arith in rw (le-ltb came header_length l) row_part
      ]

  -- bytes that leave it unfinished
  pub count_more : (n : ℕ) → kept_count s came + n < part_length s came
      → (kept_count s (came + n) ≡ kept_count s came + n) × (part_length s (came + n) ≡ part_length s came)
  count_more n h = go (dec_lt came header_length)
    where
      go : Dec (came < header_length) → (kept_count s (came + n) ≡ kept_count s came + n) × (part_length s (came + n) ≡ part_length s came)
      go (yes q) =
          let r : came + n < header_length = omega (arith, h, count_header s came q, part_header s came q) in (
            count_header s (came + n) r ∙ rw (count_header s came q),
            part_header s (came + n) r ∙ sym (part_header s came q),
          )
      go (no q) =
          let l : header_length ≤ came = omega arith in
          let j : ℕ = (came - header_length) / s in
          let k : ℕ = (came - header_length) % s in
          let r : k + n < s = omega (arith, h, count_row s came l, part_row s came l) in
          let e : came + n ≡ header_length + (j * s + (k + n)) = omega (arith, row_of l) in (
            ap (kept_count s) e ∙ count_in s j (k + n) r ∙ ap (λ (m : ℕ). m + n) (sym (count_row s came l)),
            part_row s (came + n) (omega arith) ∙ sym (part_row s came l),
          )

  -- bytes with which no byte is kept any more made the header whole
  pub header_came : (n : ℕ) → 0 < n → kept_count s (came + n) ≡ 0 → header_length ≤ came + n
  header_came n pos z =
      elim (dec_lt (came + n) header_length) [
        | yes q ↦ absurd (omega (arith, count_header s (came + n) q))
        | no q ↦ omega arith
      ]

  -- and more than the header where they were of a row
  pub rows_some : (n : ℕ) → 0 < n → kept_count s came + n ≤ part_length s came → kept_count s (came + n) ≡ 0
      → (came + n ≡ header_length → ⊥) → 0 < rows_come s (came + n)
  rows_some n pos h z other = go (ℕ_discrete (kept_count s came + n) (part_length s came))
    where
      go : Dec (kept_count s came + n ≡ part_length s came) → 0 < rows_come s (came + n)
      go (no d) = let e = (count_more n (omega (arith, h, d))).0 in absurd (omega (arith, e, z))
      go (yes e) =
          elim (dec_lt came header_length) [
            | yes q ↦ absurd (other (omega (arith, e, count_header s came q, part_header s came q)))
            | no q ↦
                let l : header_length ≤ came = omega arith in
                let j : ℕ = (came - header_length) / s in
                let m : suc j * s ≡ j * s + s = suc-mul j s in
                let f : came + n ≡ header_length + (suc j * s + 0) =
                omega (arith, e, count_row s came l, part_row s came l, row_of l, m) in
                let r : rows_come s (came + n) ≡ suc j = ap (rows_come s) f ∙ rows_in_lem s (suc j) 0 some in
                omega (arith, r)
          ]

-- no more rows came than there are
pub rows_few : (h s came : ℕ) → 0 < s → came ≤ file_length h s → rows_come s came ≤ h
rows_few h s came some l =
    let m : suc h * s ≡ h * s + s = suc-mul h s in
    let q : (came - header_length) / s < suc h = (div-lt_iff_lt-mul some).1 (omega arith) in
    omega arith

-- ---- pieces

pub part_le : (s : ℕ) → s ≤ header_length → (came : ℕ) → part_length s came ≤ header_length
part_le s near came =
    elim (dec_lt came header_length) [
      | yes q ↦ omega (arith, part_header s came q)
      | no q ↦ let l : header_length ≤ came = omega arith in omega (arith, part_row s came l)
    ]

-- what a piece makes of a fill that has its bytes already
abbrev pub after : (b h s : ℕ) (more : Fill) (raw : List ℕ) → Fill × List ℕ
after b h s more raw = cond (eqb (kept_count s more.came) 0) (completed b h s more raw) (more, raw)

module _ (b h s : ℕ) (some : 0 < s) (near : s ≤ header_length) where
  -- bytes that leave the header or row unfinished
  module _ (fill : Fill) (front : List ℕ) (fits : kept_count s fill.came + length front < part_length s fill.came) where
    pub part_fed : (raw : List ℕ) → 0 < length front → piece_fed b h s fill raw front ≡ (keeping s fill front, raw)
    unfolding piece_fed
    part_fed raw pos =
        let n : (kept_count s (fill.came + length front) ≡ 0 → ⊥) =
        λ z. absurd (omega (arith, (count_more s fill.came some (length front) fits).0)) in
        rw (ne_eqb (kept_count s (fill.came + length front)) 0 n)

    -- and then more of them
    keeping_next : length fill.kept ≡ header_length → (piece : List ℕ)
        → keeping s (keeping s fill front) piece ≡ keeping s fill (front ++ piece)
    keeping_next long piece =
        let at : ℕ = kept_count s fill.came in
        let e : fill.came + length front + length piece ≡ fill.came + length (front ++ piece) = simp length-append (omega arith) in
        let room : at + length front ≤ length fill.kept = omega (arith, part_le s near fill.came) in
        rw (
          (count_more s fill.came some (length front) fits).0,
          e,
          overlay_at_next at fill.kept front piece (at + length front) refl room,
        )

  -- bytes that make it whole
  pub whole-fed : (fill : Fill) (raw piece : List ℕ) → kept_count s (fill.came + length piece) ≡ 0
      → piece_fed b h s fill raw piece ≡ completed b h s (keeping s fill piece) raw
  unfolding piece_fed
  whole-fed fill raw piece z = rw (eq-eqb (kept_count s (fill.came + length piece)) 0 z)

  -- a piece is its bytes, one after the other
  piece_fed_lem : (piece : List ℕ) (x : ℕ) (fill : Fill) (raw : List ℕ) → length fill.kept ≡ header_length
      → kept_count s fill.came + length (x ∷ piece) ≤ part_length s fill.came
      → bytes_fed b h s (fill, raw) (x ∷ piece) ≡ piece_fed b h s fill raw (x ∷ piece)
  unfolding piece_fed
  piece_fed_lem [] x fill raw long fits = refl
  piece_fed_lem (y ∷ piece) x fill raw long fits =
      let one : List ℕ = x ∷ [] in
      let less : kept_count s fill.came + length one < part_length s fill.came = omega arith in
      let more = count_more s fill.came some 1 less in
      let room : kept_count s fill.came + length one ≤ length fill.kept = omega (arith, part_le s near fill.came) in
      ap (λ (here : Fill × List ℕ). bytes_fed b h s here (y ∷ piece)) (part_fed fill one less raw (omega arith))
      ∙ piece_fed_lem piece y (keeping s fill one) raw (length-overlay_at (kept_count s fill.came) fill.kept one room ∙ long)
      (omega (arith, more.0, more.1))
      ∙ ap (λ (m : Fill). after b h s m raw) (keeping_next fill one less long (y ∷ piece))

  pub bytes_piece : (piece : List ℕ) (fill : Fill) (raw : List ℕ) → 0 < length piece → length fill.kept ≡ header_length
      → kept_count s fill.came + length piece ≤ part_length s fill.came
      → bytes_fed b h s (fill, raw) piece ≡ piece_fed b h s fill raw piece
  bytes_piece [] fill raw pos long fits = absurd (omega arith)
  bytes_piece (x ∷ piece) fill raw pos long fits = piece_fed_lem piece x fill raw long fits

-- bytes in two parts
pub bytes_parts : (b h s : ℕ) (here : Fill × List ℕ) (l m : List ℕ)
    → bytes_fed b h s here (l ++ m) ≡ bytes_fed b h s (bytes_fed b h s here l) m
bytes_parts b h s here [] m = refl
bytes_parts b h s here (x ∷ l) m = bytes_parts b h s (piece_fed b h s here.0 here.1 (x ∷ [])) l m

-- the first n bytes, and then the rest
pub bytes_rest : (b h s : ℕ) (here there : Fill × List ℕ) (n : ℕ) (l : List ℕ) → there ≡ bytes_fed b h s here (take n l)
    → bytes_fed b h s there (drop n l) ≡ bytes_fed b h s here l
bytes_rest b h s here there n l e =
    ap (λ (t : Fill × List ℕ). bytes_fed b h s t (drop n l)) e
    ∙ sym (bytes_parts b h s here (take n l) (drop n l))
    ∙ ap (bytes_fed b h s here) (take-append-drop n l)
