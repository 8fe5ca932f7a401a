-- What has come whole begins a good file exactly where it is good.
-- Assumes nothing.
use Rattle.std.proofs.Common.{Some, None}
use mathlib.Core.Path.{◌≡◌, refl, sym, ap, ◌∙◌}
use mathlib.Core.Bool.{Bool, true, false, cond, ◌&&◌, ◌||◌}
use mathlib.Core.List.{List, [], ◌∷◌, map}
use mathlib.Core.Logic.{⊎_elim}
use Prim.Native.Nat.{ℕ, zero, suc, ◌+◌, ◌*◌, ◌/◌, ◌%◌, ◌^◌, ◌≤◌, ◌<◌}
use native.Mathlib.Nat.{not-suc-le-zero, pow-suc}
use native.Mathlib.Omega.{arith}
use native.Mathlib.Decide.{ℕ_discrete}
use borrow.Author.Tests.{eq-eqb, ne_eqb, eqb-true, le-leb, leb-true, lt-ltb, ltb-true}
use lib.Dec.{eqb, ltb}
use lib.ListN.{length, drop, length-drop}
use Rattle.lists.specs.Rules.{every}
use Rattle.lists.proofs.Rules.{and_left, and_right, either, none, keep, all_kept}
use Rattle.picture.proofs.Pictures.{Bytes, bytes_drop}
use Rattle.bitmap.specs.declared.Also.{Also}
use Rattle.bitmap.specs.declared.Also.TheVariants.{Only, Or, OrAnything}
use Rattle.bitmap.specs.declared.Field.{Field}
use Rattle.bitmap.specs.declared.Palette.TheVariants.{BlackFirst, WhiteFirst}
use Rattle.bitmap.specs.Numbers.{number_at, number_bytes}
use Rattle.bitmap.specs.Palettes.{black, white, palette_from, palette_of, black_and_white}
use Rattle.bitmap.specs.Header.{header_length, file_length, header_fields, also_good, field_good}
use Rattle.bitmap.specs.Bitmap.{bitmap_good}
use Rattle.bitmap.proofs.Numbers.{number_tail}
use Rattle.bitmap.proofs.Check.{rows-small}
use Rattle.bitmap_prefix.specs.Begins.{agrees, number_begins, also_begins, field_begins, colours_begin, palette_begins, header_begins, begins_good}
use Rattle.bitmap_prefix.proofs.Begins.{in_header}

-- ---- a number

number_empty : (size at : ℕ) → number_at size [] at ≡ 0
number_empty zero at = refl
number_empty (suc size) at = omega (arith, number_empty size (suc at))

number-drop : (size : ℕ) (file : List ℕ) (at : ℕ) → number_at size (drop at file) 0 ≡ number_at size file at
number-drop size file zero = refl
number-drop size [] (suc at) = number_empty size 0 ∙ sym (number_empty size (suc at))
number-drop size (x ∷ file) (suc at) = number-drop size file at ∙ sym (number_tail size x at file)

-- its low byte and the rest of it
digits_eqb : (x m n : ℕ) → x < 256 → (eqb x (n % 256) && eqb m (n / 256)) ≡ eqb (x + 256 * m) n
digits_eqb x m n h =
    elim (ℕ_discrete x (n % 256)) [
      | yes p ↦
          elim (ℕ_discrete m (n / 256)) [
            | yes q ↦ let e : x + 256 * m ≡ n = omega arith in rw (eq-eqb x (n % 256) p, eq-eqb m (n / 256) q, eq-eqb (x + 256 * m) n e)
            | no q ↦
                let e : (x + 256 * m ≡ n → ⊥) = λ z. q (omega arith) in
                rw (eq-eqb x (n % 256) p, ne_eqb m (n / 256) q, ne_eqb (x + 256 * m) n e)
          ]
      | no p ↦
          let e : (x + 256 * m ≡ n → ⊥) = λ z. p (omega arith) in
          rw (ne_eqb x (n % 256) p, ne_eqb (x + 256 * m) n e)
    ]

agrees_number : (size n : ℕ) (l : List ℕ) → Bytes l → size ≤ length l → n < 256 ^ size
    → agrees l (number_bytes size n) ≡ eqb (number_at size l 0) n
agrees_number zero n [] bytes h k = sym (eq-eqb 0 n (omega arith))
agrees_number zero n (x ∷ l) bytes h k = sym (eq-eqb 0 n (omega arith))
agrees_number (suc size) n [] bytes h k = absurd (not-suc-le-zero h)
agrees_number (suc size) n (x ∷ l) bytes h k =
    let q : n / 256 < 256 ^ size = omega (arith, pow-suc 256 size) in
    rw (agrees_number size (n / 256) l (λ i. bytes (suc i)) (omega arith) q, number_tail size x 0 l)
    (digits_eqb x (number_at size l 0) n (bytes 0))

-- what agrees with a number reads as it
agrees_reads : (size n : ℕ) (l : List ℕ) → size ≤ length l → n < 256 ^ size → agrees l (number_bytes size n) ≡ true → number_at size l 0 ≡ n
agrees_reads zero n l h k e = omega arith
agrees_reads (suc size) n [] h k e = absurd (not-suc-le-zero h)
agrees_reads (suc size) n (x ∷ l) h k e =
    let q : n / 256 < 256 ^ size = omega (arith, pow-suc 256 size) in
    let low : x ≡ n % 256 = eqb-true x (n % 256) (and_left (eqb x (n % 256)) (agrees l (number_bytes size (n / 256))) e) in
    let high = agrees_reads size (n / 256) l (omega arith) q (and_right (eqb x (n % 256)) (agrees l (number_bytes size (n / 256))) e) in
    rw (number_tail size x 0 l) (omega (arith, low, high))

-- ---- the palette and the fields

-- two colours that are good
colours_rule : (first second : ℕ)
    → (eqb first black && eqb second white || eqb first white && eqb second black) ≡ black_and_white (palette_from first second)
unfolding palette_from
colours_rule first second = go (eqb first black && eqb second white) (eqb first white && eqb second black)
  where
    go : (p q : Bool) → (p || q) ≡ black_and_white (cond p (Some BlackFirst) (cond q (Some WhiteFirst) None))
    go true q = refl
    go false true = refl
    go false false = refl

-- the numbers that a field may hold fit its bytes, and these lie in the header
abbrev also_fits : Also → (size : ℕ) → Bool
also_fits Only size = true
also_fits (Or other) size = ltb other (256 ^ size)
also_fits OrAnything size = true

abbrev field_fits : Field → Bool
field_fits f = in_header f && (ltb f.number (256 ^ f.size) && also_fits f.also f.size)

-- so it is with each field of the table
fields_fit : (b h s : ℕ) → b ≤ 33 → h ≤ 176 → s ≤ 36 → every (map field_fits (header_fields b h s)) ≡ true
fields_fit b h s narrow low stride =
    let small : h * s ≤ 6336 = rows-small h s low stride in
    let fits : (n : ℕ) → n < 256 ^ 4 → (ltb n (256 ^ 4) && true) ≡ true = λ n q. rw (lt-ltb n (256 ^ 4) q) in
    all_kept
    (keep refl
    (keep (fits (file_length h s) (omega arith))
    (keep refl
    (keep refl
    (keep refl
    (keep (fits (8 * b) (omega arith))
    (keep (fits h (omega arith))
    (keep refl
    (keep refl
    (keep refl
    (keep (fits (h * s) (omega arith)) (keep refl (keep refl (keep refl (keep refl (keep refl (keep refl none)))))))))))))))))

module _ (file : List ℕ) (bytes : Bytes file) where
  number-whole : (size at n : ℕ) → at + size ≤ length file → n < 256 ^ size
      → number_begins size file at n ≡ eqb (number_at size file at) n
  number-whole size at n h k =
      agrees_number size n (drop at file) (bytes_drop at file bytes) (omega (arith, length-drop at file)) k
      ∙ ap (λ (m : ℕ). eqb m n) (number-drop size file at)

  also_whole : (also : Also) (size at : ℕ) → at + size ≤ length file → also_fits also size ≡ true
      → also_begins also size file at ≡ also_good also (number_at size file at)
  also_whole Only size at h k = refl
  also_whole (Or other) size at h k = number-whole size at other h (ltb-true other (256 ^ size) k)
  also_whole OrAnything size at h k = refl

  module _ (room : header_length ≤ length file) where
    fields_whole : (fields : List Field) → every (map field_fits fields) ≡ true
        → every (map (field_begins file) fields) ≡ every (map (field_good file) fields)
    fields_whole [] e = refl
    fields_whole (f ∷ fields) e =
        let fits : field_fits f ≡ true = and_left (field_fits f) (every (map field_fits fields)) e in
        let numbers : (ltb f.number (256 ^ f.size) && also_fits f.also f.size) ≡ true = and_right (in_header f) _ fits in
        let in-header : f.at + f.size ≤ header_length = leb-true _ _ (and_left (in_header f) _ fits) in
        let h : f.at + f.size ≤ length file = omega arith in
        let n : f.number < 256 ^ f.size = ltb-true _ _ (and_left _ (also_fits f.also f.size) numbers) in
        rw (
          number-whole f.size f.at f.number h n,
          also_whole f.also f.size f.at h (and_right (ltb f.number (256 ^ f.size)) _ numbers),
          fields_whole fields (and_right (field_fits f) (every (map field_fits fields)) e),
        )

    palette_whole : palette_begins file ≡ black_and_white (palette_of file)
    palette_whole =
        let w : (i n : ℕ) → i + 3 ≤ length file → n < 256 ^ 3 → number_begins 3 file i n ≡ eqb (number_at 3 file i) n = number-whole 3 in
        rw (
          w 54 black (omega arith) (omega arith),
          w 58 white (omega arith) (omega arith),
          w 54 white (omega arith) (omega arith),
          w 58 black (omega arith) (omega arith),
        )
        (colours_rule (number_at 3 file 54) (number_at 3 file 58))

    module _ (b h s : ℕ) (narrow : b ≤ 33) (low : h ≤ 176) (stride : s ≤ 36) where
      pub header-whole : header_begins b h s file ≡ every (black_and_white (palette_of file) ∷ map (field_good file) (header_fields b h s))
      unfolding header_begins
      header-whole = rw (palette_whole, fields_whole (header_fields b h s) (fields_fit b h s narrow low stride))

-- a whole header that begins a good one has black and white
module _ (bytes : List ℕ) (room : header_length ≤ length bytes) where
  number_read : (at n : ℕ) → at + 3 ≤ header_length → n < 256 ^ 3 → number_begins 3 bytes at n ≡ true → number_at 3 bytes at ≡ n
  number_read at n h k e =
      sym (number-drop 3 bytes at) ∙ agrees_reads 3 n (drop at bytes) (omega (arith, length-drop at bytes)) k e

  colours_read : (first second : ℕ) → first < 256 ^ 3 → second < 256 ^ 3 → colours_begin bytes first second ≡ true
      → palette_of bytes ≡ palette_from first second
  colours_read first second p q e =
      rw (
        number_read 54 first (omega arith) p (and_left (number_begins 3 bytes 54 first) (number_begins 3 bytes 58 second) e),
        number_read 58 second (omega arith) q (and_right (number_begins 3 bytes 54 first) (number_begins 3 bytes 58 second) e),
      )

  pub begins_palette : (b h s : ℕ) → header_begins b h s bytes ≡ true → black_and_white (palette_of bytes) ≡ true
  unfolding header_begins palette_from
  begins_palette b h s e =
      let begun = and_left (palette_begins bytes) (every (map (field_begins bytes) (header_fields b h s))) e in
      ⊎_elim
      (λ (l : colours_begin bytes black white ≡ true). ap black_and_white (colours_read black white (omega arith) (omega arith) l))
      (λ (r : colours_begin bytes white black ≡ true). ap black_and_white (colours_read white black (omega arith) (omega arith) r))
      (either (colours_begin bytes black white) (colours_begin bytes white black) begun)

-- ---- the file

pub good_length : (b h s : ℕ) (file : List ℕ) → bitmap_good b h s file ≡ true → length file ≡ file_length h s
unfolding bitmap_good
good_length b h s file e =
    eqb-true (length file) (file_length h s)
    (and_left _ (every (black_and_white (palette_of file) ∷ map (field_good file) (header_fields b h s))) e)

module _ (b h s : ℕ) (narrow : b ≤ 33) (low : h ≤ 176) (stride : s ≤ 36) (file : List ℕ) (bytes : Bytes file) where
  -- bytes of the full length begin a good file where they are one
  pub begins-whole : length file ≡ file_length h s → begins_good b h s file ≡ bitmap_good b h s file
  unfolding begins_good bitmap_good
  begins-whole e =
      rw (le-leb (length file) (file_length h s) (omega arith), eq-eqb (length file) (file_length h s) e)
      (header-whole file bytes (omega arith) b h s narrow low stride)

  pub begins-good : length file ≡ file_length h s → begins_good b h s file ≡ true → bitmap_good b h s file ≡ true
  begins-good e begins = sym (begins-whole e) ∙ begins

  pub good-begins : bitmap_good b h s file ≡ true → begins_good b h s file ≡ true
  good-begins good = begins-whole (good_length b h s file good) ∙ good
