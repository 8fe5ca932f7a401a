-- Laws of what can be mended, of the loop over the table that mends the header, and of the bytes of the mended file.
-- Assumes nothing.
use mathlib.Core.Path.{◌≡◌, refl, sym, ap, ◌∙◌}
use mathlib.Core.Bool.{Bool, true, and-false}
use mathlib.Core.List.{List, [], ◌∷◌, ◌++◌, map}
use Prim.Native.Nat.{ℕ, ◌+◌, ◌-◌, ◌%◌, ◌≤◌, ◌<◌}
use native.Mathlib.Numerals.{add-one}
use borrow.Author.Tests.{lt-ltb, le-ltb, le-leb}
use lib.Dec.{leb}
use lib.ListN.{length, get_or, take}
use lib.Seq.{take-suc}
use Rattle.lists.specs.Rules.{every}
use Rattle.lists.proofs.Rules.{none, keep, others, and_left, and_right, or_right}
use Rattle.bitmap.specs.declared.Field.{Field}
use Rattle.bitmap.specs.Palettes.{palette_of, black_and_white}
use Rattle.bitmap.specs.Header.{header_length, file_length, field_good}
use Rattle.bitmap.proofs.Fields.{tests}
use Rattle.mend.specs.Mending.{is_mended, field_mendable, mendable, mend_field, mend_fields, byte_by}

-- ---- what can be mended

module _ (b h s : ℕ) (file : List ℕ) where
  -- the tests of the fields, and all
  abbrev pub field_tests : List Bool
  field_tests = tests (field_mendable file) b h s

  abbrev pub mend_tests : List Bool
  mend_tests =
      leb header_length (length file) ∷ leb (length file) (file_length h s) ∷ black_and_white (palette_of file) ∷ field_tests

  pub fields_decide : header_length ≤ length file → length file ≤ file_length h s → black_and_white (palette_of file) ≡ true
      → mendable b h s file ≡ every field_tests
  unfolding mendable
  fields_decide l m p =
      others 3 mend_tests (keep (le-leb header_length (length file) l) (keep (le-leb (length file) (file_length h s) m) (keep p none)))

-- good fields can be mended, and stay as they are
module _ (file : List ℕ) where
  pub good_mended : (fields : List Field) → every (map (field_good file) fields) ≡ true → every (map (field_mendable file) fields) ≡ true
  good_mended [] e = refl
  good_mended (f ∷ fields) e =
      rw (or_right (is_mended f.at) (field_good file f) (and_left (field_good file f) (every (map (field_good file) fields)) e))
      (good_mended fields (and_right (field_good file f) (every (map (field_good file) fields)) e))

  pub good_stays : (fields : List Field) (x : List ℕ) → every (map (field_good file) fields) ≡ true → mend_fields file fields x ≡ x
  good_stays [] x e = refl
  good_stays (f ∷ fields) x e =
      let g : field_good file f ≡ true = and_left (field_good file f) (every (map (field_good file) fields)) e in
      let same : mend_field file f x ≡ x = rw (g, and-false (is_mended f.at)) in
      ap (mend_fields file fields) same ∙ good_stays fields x (and_right (field_good file f) (every (map (field_good file) fields)) e)

-- ---- the loop over the table

mend_append : (file : List ℕ) (fields : List Field) (f : Field) (x : List ℕ)
    → mend_fields file (fields ++ (f ∷ [])) x ≡ mend_field file f (mend_fields file fields x)
mend_append file [] f x = refl
mend_append file (g ∷ fields) f x = mend_append file fields f (mend_field file g x)

-- one field more
pub mend_next : (file : List ℕ) (fields : List Field) (i : ℕ) → i < length fields → (d : Field) (x : List ℕ) {y z : List ℕ}
    → y ≡ mend_fields file (take i fields) x → z ≡ mend_field file (get_or fields i d) y → z ≡ mend_fields file (take (i + 1) fields) x
mend_next file fields i low d x p q =
    rw add-one
    (q
    ∙ ap (mend_field file (get_or fields i d)) p
    ∙ sym (mend_append file (take i fields) (get_or fields i d) x)
    ∙ ap (λ (l : List Field). mend_fields file l x) (sym (take-suc fields i d low)))

-- ---- the bytes of the mended file

module _ (b s : ℕ) (header : List ℕ) (white : ℕ) (file : List ℕ) (k : ℕ) where
  pub byte_header : k < header_length → byte_by b s header white file k ≡ get_or header k 0
  unfolding byte_by
  byte_header h = rw (lt-ltb k header_length h)

  pub byte_padding : header_length ≤ k → b ≤ (k - header_length) % s → byte_by b s header white file k ≡ 0
  unfolding byte_by
  byte_padding h p = rw (le-ltb k header_length h, le-ltb ((k - header_length) % s) b p)

  module _ (h : header_length ≤ k) (p : (k - header_length) % s < b) where
    pub byte_kept : k < length file → byte_by b s header white file k ≡ get_or file k 0
    unfolding byte_by
    byte_kept l = rw (le-ltb k header_length h, lt-ltb ((k - header_length) % s) b p, lt-ltb k (length file) l)

    pub byte_missing : length file ≤ k → byte_by b s header white file k ≡ white
    unfolding byte_by
    byte_missing l = rw (le-ltb k header_length h, lt-ltb ((k - header_length) % s) b p, le-ltb k (length file) l)
