-- Bytes begin a good file exactly where some rest makes them one: the rest is taken from a file that is made for them.
-- Assumes nothing.
use Rattle.std.proofs.Common.{Option, Some, None}
use mathlib.Core.Path.{◌≡◌, refl, sym, ap, ◌∙◌}
use mathlib.Core.Bool.{Bool, true, false, cond, ◌&&◌, ◌||◌, or-true, or-false, false≢true}
use mathlib.Core.List.{List, [], ◌∷◌, ◌++◌, map, append-nil, append_assoc}
use mathlib.Core.Logic.{⊎_elim}
use Prim.Native.Nat.{ℕ, zero, suc, ◌+◌, ◌*◌, ◌/◌, ◌≤◌}
use native.Mathlib.Nat.{mod-lt}
use native.Mathlib.Omega.{arith}
use borrow.Author.Tests.{eq-eqb, eqb-true, le-leb}
use lib.Dec.{eqb}
use lib.ListN.{length, take, drop}
use lib.Seq.{drop-nil, drop_at, drop-drop}
use Rattle.lists.specs.Lists.{tabulate, overlay}
use Rattle.lists.specs.Rules.{every}
use Rattle.lists.proofs.Lists.{length-tabulate, length-overlay}
use Rattle.lists.proofs.Rules.{and_left, and_right, or_left, or_right, either, none, keep, all_kept, holds, every_parts}
use Rattle.picture.proofs.Pictures.{Bytes, bytes_tabulate, bytes_drop, bytes_append}
use Rattle.bitmap.specs.declared.Also.{Also}
use Rattle.bitmap.specs.declared.Also.TheVariants.{Only, Or, OrAnything}
use Rattle.bitmap.specs.declared.Field.{Field}
use Rattle.bitmap.specs.declared.Palette.{Palette}
use Rattle.bitmap.specs.declared.Palette.TheVariants.{BlackFirst, WhiteFirst}
use Rattle.bitmap.specs.Numbers.{number_bytes}
use Rattle.bitmap.specs.Palettes.{black, white, palette_from, palette_of, black_and_white}
use Rattle.bitmap.specs.Header.{file_length, field, header_fields}
use Rattle.bitmap.specs.Bitmap.{bitmap_good}
use Rattle.bitmap.proofs.Numbers.{length-number}
use Rattle.bitmap_prefix.specs.Begins.{agrees, number_begins, also_begins, field_begins, colours_begin, palette_begins, header_begins, begins_good}
use Rattle.bitmap_prefix.specs.Meaning.{CanBeGood, BeginsMeans}
use Rattle.bitmap_prefix.proofs.Begins.{Gives, both, and_gives, begins-fits, begins-header, begins_front, begins_empty}
use Rattle.bitmap_prefix.proofs.Whole.{begins-good, good-begins}

-- ---- bytes laid over others that agree with them

drop-over : (at : ℕ) (bytes out : List ℕ) → drop at (overlay bytes out) ≡ overlay (drop at bytes) (drop at out)
drop-over zero bytes out = refl
drop-over (suc at) [] out = refl
drop-over (suc at) (x ∷ bytes) [] =
    rw (append-nil bytes) (sym (rw (drop-nil {A = ℕ} (length (drop at bytes))) (append-nil (drop at bytes))))
drop-over (suc at) (x ∷ bytes) (y ∷ out) = drop-over at bytes out

agrees-self : (l more : List ℕ) → agrees (l ++ more) l ≡ true
agrees-self [] [] = refl
agrees-self [] (x ∷ more) = refl
agrees-self (x ∷ l) more = both (eq-eqb x x refl) (agrees-self l more)

agrees-over : (bytes l more : List ℕ) → agrees bytes l ≡ true → agrees (overlay bytes (l ++ more)) l ≡ true
agrees-over [] l more e = agrees-self l more
agrees-over (x ∷ bytes) [] more e = refl
agrees-over (x ∷ bytes) (y ∷ l) more e =
    and_gives {a = eqb x y} {b = agrees bytes l} {c = eqb x y} {d = agrees (overlay bytes (l ++ more)) l} (λ p. p)
    (agrees-over bytes l more) e

-- ---- fields that are made for bytes

-- a number that a field may hold besides its own, where there is one
abbrev other_of : Also → (own : ℕ) → ℕ
other_of Only own = own
other_of (Or other) own = other
other_of OrAnything own = own

-- the number that the bytes begin
abbrev chosen : (bytes : List ℕ) → Field → ℕ
chosen bytes f = cond (number_begins f.size bytes f.at f.number) f.number (other_of f.also f.number)

abbrev chosen_bytes : (bytes : List ℕ) → List Field → List ℕ
chosen_bytes bytes [] = []
chosen_bytes bytes (f ∷ fields) = number_bytes f.size (chosen bytes f) ++ chosen_bytes bytes fields

bytes_number : (size n : ℕ) → Bytes (number_bytes size n)
bytes_number zero n k = omega arith
bytes_number (suc size) n zero = mod-lt n (omega arith)
bytes_number (suc size) n (suc k) = bytes_number size (n / 256) k

bytes_chosen : (bytes : List ℕ) (fields : List Field) → Bytes (chosen_bytes bytes fields)
bytes_chosen bytes [] k = omega arith
bytes_chosen bytes (f ∷ fields) k =
    bytes_append (number_bytes f.size (chosen bytes f)) (chosen_bytes bytes fields) (bytes_number f.size (chosen bytes f))
    (bytes_chosen bytes fields) k

-- fields that stand one after the other from an index on
abbrev in_order : (at : ℕ) → List Field → Bool
in_order at [] = true
in_order at (f ∷ fields) = eqb f.at at && in_order (at + f.size) fields

-- a field that may hold anything, and one that may hold its own number only
module _ (file : List ℕ) (at size number : ℕ) where
  free_begins : field_begins file (field at size number OrAnything) ≡ true
  free_begins = or-true (number_begins size file at number)

  own_begins : Gives (number_begins size file at number) (field_begins file (field at size number Only))
  own_begins = or_left (number_begins size file at number) false

  begins_own : Gives (field_begins file (field at size number Only)) (number_begins size file at number)
  begins_own e = sym (or-false (number_begins size file at number)) ∙ e

-- the bytes laid over a file that was made for them
module _ (bytes made : List ℕ) where
  over-number : (size at n : ℕ) (more : List ℕ) → drop at made ≡ number_bytes size n ++ more
      → Gives (number_begins size bytes at n) (number_begins size (overlay bytes made) at n)
  over-number size at n more e f = rw (drop-over at bytes made, e) (agrees-over (drop at bytes) (number_bytes size n) more f)

  over-field : (at size number : ℕ) (also : Also) (more : List ℕ) (own : Bool) → number_begins size bytes at number ≡ own
      → drop at made ≡ number_bytes size (cond own number (other_of also number)) ++ more
      → Gives (own || also_begins also size bytes at) (field_begins (overlay bytes made) (field at size number also))
  over-field at size number also more true is e f = or_left _ _ (over-number size at number more e is)
  over-field at size number Only more false is e f = absurd (false≢true f)
  over-field at size number (Or other) more false is e f =
      or_right (number_begins size (overlay bytes made) at number) _ (over-number size at other more e f)
  over-field at size number OrAnything more false is e f = free_begins (overlay bytes made) at size number

  over_fields : (at : ℕ) (fields : List Field) (rest : List ℕ) → in_order at fields ≡ true → drop at made ≡ chosen_bytes bytes fields ++ rest
      → Gives (every (map (field_begins bytes) fields)) (every (map (field_begins (overlay bytes made)) fields))
  over_fields at [] rest o e f = refl
  over_fields at (g ∷ fields) rest o e f =
      let own : List ℕ = number_bytes g.size (chosen bytes g) in
      let is : g.at ≡ at = eqb-true g.at at (and_left (eqb g.at at) (in_order (at + g.size) fields) o) in
      let here : drop at made ≡ own ++ (chosen_bytes bytes fields ++ rest) = e ∙ append_assoc own (chosen_bytes bytes fields) rest in
      let next : drop (at + g.size) made ≡ chosen_bytes bytes fields ++ rest =
      sym (drop-drop g.size at made) ∙ ap (drop g.size) here
      ∙ drop_at own (chosen_bytes bytes fields ++ rest) g.size (length-number g.size (chosen bytes g)) in
      and_gives {a = field_begins bytes g} {b = every (map (field_begins bytes) fields)}
      (over-field g.at g.size g.number g.also (chosen_bytes bytes fields ++ rest) _ refl (ap (λ (n : ℕ). drop n made) is ∙ here))
      (over_fields (at + g.size) fields rest (and_right (eqb g.at at) (in_order (at + g.size) fields) o) next)
      f

-- ---- a file that is made for bytes whose palette begins two colours

-- either order is good
black_first : (file : List ℕ) → Gives (colours_begin file black white) (palette_begins file)
black_first file = or_left (colours_begin file black white) (colours_begin file white black)

white_first : (file : List ℕ) → Gives (colours_begin file white black) (palette_begins file)
white_first file = or_right (colours_begin file black white) (colours_begin file white black)

-- the fields before the palette, and the palette's with these colours
abbrev made_fields : (b h s first second : ℕ) → List Field
made_fields b h s first second =
    take 15 (header_fields b h s)
    ++ (field 54 3 first Only ∷ field 57 1 0 OrAnything ∷ field 58 3 second Only ∷ field 61 1 0 OrAnything ∷ [])

unfoldable made_file : (b h s first second : ℕ) (bytes : List ℕ) → List ℕ
made_file b h s first second bytes = chosen_bytes bytes (made_fields b h s first second) ++ tabulate (h * s) (λ _. 0)

module _ (b h s first second : ℕ) (bytes : List ℕ) where
  length_made : length (made_file b h s first second bytes) ≡ file_length h s
  unfolding made_file
  length_made = omega (arith, length-tabulate (h * s) (λ _. 0))

  bytes_made : Bytes (made_file b h s first second bytes)
  unfolding made_file
  bytes_made =
      bytes_append (chosen_bytes bytes (made_fields b h s first second)) (tabulate (h * s) (λ _. 0))
      (bytes_chosen bytes (made_fields b h s first second)) (bytes_tabulate (h * s) (λ _. 0) (λ k. omega arith))

  module _ (colours : colours_begin bytes first second ≡ true)
      (either_order : (file : List ℕ) → Gives (colours_begin file first second) (palette_begins file)) where
    abbrev whole : List ℕ
    whole = overlay bytes (made_file b h s first second bytes)

    abbrev header_tests : (file : List ℕ) → List Bool
    header_tests file = map (field_begins file) (header_fields b h s)

    abbrev made_tests : (file : List ℕ) → List Bool
    made_tests file = map (field_begins file) (made_fields b h s first second)

    made_begin : Gives (every (header_tests bytes)) (every (made_tests bytes))
    made_begin e =
        let front : every (take 15 (header_tests bytes)) ≡ true =
        and_left _ (every (drop 15 (header_tests bytes))) (sym (every_parts 15 (header_tests bytes)) ∙ e) in
        let palette : every (drop 15 (made_tests bytes)) ≡ true =
        all_kept
        (keep (own_begins bytes 54 3 first (and_left (number_begins 3 bytes 54 first) (number_begins 3 bytes 58 second) colours))
        (keep (free_begins bytes 57 1 0)
        (keep (own_begins bytes 58 3 second (and_right (number_begins 3 bytes 54 first) (number_begins 3 bytes 58 second) colours))
        (keep (free_begins bytes 61 1 0) none)))) in
        every_parts 15 (made_tests bytes) ∙ both front palette

    whole_begin : Gives (every (made_tests bytes)) (every (made_tests whole))
    unfolding made_file
    whole_begin =
        over_fields bytes (made_file b h s first second bytes) 0 (made_fields b h s first second) (tabulate (h * s) (λ _. 0)) refl refl

    header_begin : Gives (every (made_tests whole)) (header_begins b h s whole)
    unfolding header_begins
    header_begin e =
        let front : every (take 15 (header_tests whole)) ≡ true =
        and_left _ (every (drop 15 (made_tests whole))) (sym (every_parts 15 (made_tests whole)) ∙ e) in
        let free : every (drop 15 (header_tests whole)) ≡ true =
        all_kept (keep (free_begins whole 54 4 black) (keep (free_begins whole 58 4 white) none)) in
        let palette : colours_begin whole first second ≡ true =
        both (begins_own whole 54 3 first (holds 15 (made_tests whole) e)) (begins_own whole 58 3 second (holds 17 (made_tests whole) e)) in
        both {a = palette_begins whole} {b = every (header_tests whole)} (either_order whole palette)
        (every_parts 15 (header_tests whole) ∙ both front free)

    module _ (narrow : b ≤ 33) (low : h ≤ 176) (stride : s ≤ 36) (are : Bytes bytes) where
      made_good : begins_good b h s bytes ≡ true → bitmap_good b h s whole ≡ true
      unfolding begins_good header_begins
      made_good e =
          let made : List ℕ = made_file b h s first second bytes in
          let fits : length bytes ≤ file_length h s = begins-fits b h s bytes e in
          let fields : every (header_tests bytes) ≡ true =
          and_right (palette_begins bytes) (every (header_tests bytes)) (begins-header b h s bytes e) in
          let long : length whole ≡ file_length h s = length-overlay bytes made (omega (arith, length_made)) ∙ length_made in
          let is : Bytes whole = bytes_append bytes (drop (length bytes) made) are (bytes_drop (length bytes) made bytes_made) in
          begins-good b h s narrow low stride whole is long
          (both (le-leb (length whole) (file_length h s) (omega arith)) (header_begin (whole_begin (made_begin fields))))

-- ---- the theorem

module _ (b h s : ℕ) (narrow : b ≤ 33) (low : h ≤ 176) (stride : s ≤ 36) (bytes : List ℕ) (are : Bytes bytes) where
  can_with : (first second : ℕ) → ((file : List ℕ) → Gives (colours_begin file first second) (palette_begins file))
      → begins_good b h s bytes ≡ true → colours_begin bytes first second ≡ true → CanBeGood b h s bytes
  can_with first second either_order e colours =
      let made : List ℕ = made_file b h s first second bytes in (
        drop (length bytes) made,
        bytes_drop (length bytes) made (bytes_made b h s first second bytes),
        made_good b h s first second bytes colours either_order narrow low stride are e,
      )

  pub begins-can : begins_good b h s bytes ≡ true → CanBeGood b h s bytes
  unfolding header_begins
  begins-can e =
      ⊎_elim
      (can_with black white black_first e)
      (can_with white black white_first e)
      (either (colours_begin bytes black white) (colours_begin bytes white black)
      (and_left (palette_begins bytes) (every (map (field_begins bytes) (header_fields b h s))) (begins-header b h s bytes e)))

  pub can-begins : CanBeGood b h s bytes → begins_good b h s bytes ≡ true
  can-begins (rest, r, good) =
      begins_front bytes rest b h s (good-begins b h s narrow low stride (bytes ++ rest) (bytes_append bytes rest are r) good)

pub begins_means : BeginsMeans
begins_means b h s narrow low stride bytes are =
    record { can = begins-can b h s narrow low stride bytes are; begins = can-begins b h s narrow low stride bytes are }

-- ---- palettes

-- for every palette of black and white there is a good file
module _ (b h s : ℕ) (narrow : b ≤ 33) (low : h ≤ 176) (stride : s ≤ 36) where
  good_made : (first second : ℕ) → ((file : List ℕ) → Gives (colours_begin file first second) (palette_begins file))
      → Bytes (made_file b h s first second []) × (bitmap_good b h s (made_file b h s first second []) ≡ true)
  good_made first second either_order = (
    bytes_made b h s first second [],
    made_good b h s first second [] refl either_order narrow low stride (λ k. omega arith) (begins_empty b h s),
  )

  pub good_with : (palette : Option Palette) → black_and_white palette ≡ true
      → (file : List ℕ) × Bytes file × (bitmap_good b h s file ≡ true) × (palette_of file ≡ palette)
  unfolding made_file palette_from
  good_with (Some BlackFirst) e =
      let good = good_made black white black_first in
      (made_file b h s black white [], good.0, good.1, refl)
  good_with (Some WhiteFirst) e =
      let good = good_made white black white_first in
      (made_file b h s white black [], good.0, good.1, refl)
  good_with None e = absurd (false≢true e)
