-- Laws of the mended file, for any row bytes b, rows h and stride s: the check accepts it, its padding is 0, and an accepted file with zero
-- padding is mended to itself.
-- Assumes nothing.
use Rattle.std.proofs.Common.{Option, Some, None}
use mathlib.Core.Path.{◌≡◌, refl, sym, ap, ◌∙◌}
use mathlib.Core.Bool.{Bool, true, false, cond, not, ◌||◌, or-true}
use mathlib.Core.List.{List, [], ◌∷◌, ◌++◌, map}
use Prim.Native.Nat.{ℕ, suc, ◌+◌, ◌-◌, ◌*◌, ◌%◌, ◌^◌, ◌≤◌, ◌<◌}
use native.Mathlib.Omega.{arith}
use native.Mathlib.Decide.{dec_lt}
use borrow.Author.Tests.{eq-eqb, eqb-true, ltb-true, lt-ltb, le-ltb}
use lib.Dec.{eqb}
use lib.ListN.{length, get_or, take, drop}
use lib.Seq.{get_or-take, get_or-drop}
use Rattle.lists.specs.Lists.{tabulate}
use Rattle.lists.specs.Rules.{every}
use Rattle.lists.proofs.Lists.{length-tabulate, get_or-tabulate, is-tabulate, tabulate-add}
use Rattle.lists.proofs.Rules.{none, keep, all_kept, holds, others}
use Rattle.bitmap.specs.declared.Also.{Also}
use Rattle.bitmap.specs.declared.Also.TheVariants.{Only, Or}
use Rattle.bitmap.specs.declared.Field.{Field}
use Rattle.bitmap.specs.declared.Palette.{Palette}
use Rattle.bitmap.specs.declared.Palette.TheVariants.{BlackFirst, WhiteFirst}
use Rattle.bitmap.specs.Numbers.{number_at, number_bytes}
use Rattle.bitmap.specs.Palettes.{palette_of, black_and_white, dots_of}
use Rattle.bitmap.specs.Header.{field, header_length, file_length, header_fields, also_good, field_good}
use Rattle.bitmap.specs.Bitmap.{bitmap_good}
use Rattle.bitmap.proofs.Numbers.{number-back}
use Rattle.bitmap.proofs.Check.{rows-small}
use Rattle.bitmap.proofs.Fields.{field_at, tests}
use Rattle.bitmap.proofs.Fields.{held}
use Rattle.mend.specs.Mending.{mendable, mended_header, white_byte, mended_byte, mended_file, ZeroPadding, elsewhere}
use Rattle.mend.specs.Answers.{changes}
use Rattle.mend.proofs.Fields.{mend_tests, field_tests, fields_decide, good_mended, good_stays, byte_header, byte_padding, byte_kept, byte_missing}
use Rattle.mend.proofs.Header.{same_part, number_part, front_part, spared, length-header, header_kept, header_2, header_6, header_34, header_46}
use Rattle.mend.proofs.Changes.{none_changed}
use Rattle.mend.proofs.Calls.{lengths}

module _ (b h s : ℕ) (file : List ℕ) where
  pub length_mended : length (mended_file b h s file) ≡ file_length h s
  length_mended = length-tabulate (file_length h s) (mended_byte b h s file)

  pub byte_mended : (k : ℕ) → k < file_length h s → get_or (mended_file b h s file) k 0 ≡ mended_byte b h s file k
  byte_mended k l = get_or-tabulate (file_length h s) (mended_byte b h s file) k 0 l

  -- the padding of a mended file is 0
  pub padding_byte : (k : ℕ) → header_length ≤ k → k < file_length h s → b ≤ (k - header_length) % s → get_or (mended_file b h s file) k 0 ≡ 0
  padding_byte k after l p = byte_mended k l ∙ byte_padding b s (mended_header b h s file) _ file k after p

  pub mended_padding : ZeroPadding b h s (mended_file b h s file)
  mended_padding k l p =
      let e : header_length + k - header_length ≡ k = omega arith in
      let q : b ≤ (header_length + k - header_length) % s = rw e p in
      padding_byte (header_length + k) (omega arith) (omega arith) q

-- ---- the check accepts every mended file

-- a byte as a part
byte_part : (k : ℕ) (y : List ℕ) → get_or y k 0 ≡ get_or (take 1 (drop k y)) 0 0
byte_part k y =
    let e : k ≡ k + 0 = omega arith in
    ap (λ (n : ℕ). get_or y n 0) e ∙ sym (get_or-take 1 (drop k y) 0 0 (omega arith) ∙ get_or-drop k y 0 0)

-- a field that holds the same number in two files
same_good : (y z : List ℕ) (f : Field) → number_at f.size y f.at ≡ number_at f.size z f.at → field_good z f ≡ true
    → field_good y f ≡ true
same_good y z f e g = ap (λ (n : ℕ). eqb n f.number || also_good f.also n) e ∙ g

-- a field that is the file's where it was good, and holds its own number where it was not
field_mended : (file m : List ℕ) (at n : ℕ) (also : Also) (good : Bool) → good ≡ field_good file (field at 4 n also)
    → n < 256 ^ 4 → take 4 (drop at m) ≡ cond (not good) (number_bytes 4 n) (take 4 (drop at file)) → field_good m (field at 4 n also) ≡ true
field_mended file m at n also true q l e = same_good m file (field at 4 n also) (same_part 4 at m file e) (sym q)
field_mended file m at n also false q l e =
    held m (field at 4 n also) (number_part 4 at m ∙ ap (λ (p : List ℕ). number_at 4 p 0) e ∙ number-back 4 n [] l)

module _ (b h s : ℕ) (low : h ≤ 176) (stride : s ≤ 36) (file : List ℕ) (mends : mendable b h s file ≡ true) where
  long : header_length ≤ length file
  long = (lengths b h s file mends).long

  -- the header of a mended file
  file_parts : mended_file b h s file ≡ mended_header b h s file ++ tabulate (h * s) (λ k. mended_byte b h s file (header_length + k))
  file_parts =
      let rule : ℕ → ℕ = mended_byte b h s file in
      let front : mended_header b h s file ≡ tabulate header_length rule =
      is-tabulate (mended_header b h s file) header_length rule (length-header b h s file long)
      (λ k l. sym (byte_header b s (mended_header b h s file) _ file k l)) in
      tabulate-add header_length (h * s) rule
      ∙ ap (λ (x : List ℕ). x ++ tabulate (h * s) (λ k. rule (header_length + k))) (sym front)

  part_mended : (at n : ℕ) → at + n ≤ header_length → take n (drop at (mended_file b h s file)) ≡ take n (drop at (mended_header b h s file))
  part_mended at n l =
      ap (λ (x : List ℕ). take n (drop at x)) file_parts
      ∙ front_part at n (mended_header b h s file) _ (omega (arith, length-header b h s file long))

  number_kept : (n at : ℕ) → every (spared at n) ≡ true → at + n ≤ header_length
      → number_at n (mended_file b h s file) at ≡ number_at n file at
  number_kept n at e l = same_part n at (mended_file b h s file) file (part_mended at n l ∙ header_kept b h s file long at n e l)

  field_test : (k : ℕ) → get_or (field_tests b h s file) k true ≡ true
  unfolding mendable
  field_test k = holds (suc (suc (suc k))) (mend_tests b h s file) mends

  -- a field that is not mended
  field_kept : (f : Field) → every (spared f.at f.size) ≡ true → f.at + f.size ≤ header_length → field_good file f ≡ true
      → field_good (mended_file b h s file) f ≡ true
  field_kept f e l g = same_good (mended_file b h s file) file f (number_kept f.size f.at e l) g

  pub palette_kept : palette_of (mended_file b h s file) ≡ palette_of file
  palette_kept = rw (number_kept 3 54 refl (omega arith), number_kept 3 58 refl (omega arith))

  pub palette_good : black_and_white (palette_of file) ≡ true
  unfolding mendable
  palette_good = holds 2 (mend_tests b h s file) mends

  -- the check accepts every mended file
  pub mended_good : bitmap_good b h s (mended_file b h s file) ≡ true
  unfolding bitmap_good
  mended_good =
      let small : h * s ≤ 6336 = rows-small h s low stride in
      let m : List ℕ = mended_file b h s file in
      let own : (at n : ℕ) (also : Also) → n < 256 ^ 4 → at + 4 ≤ header_length
      → take 4 (drop at (mended_header b h s file)) ≡ cond (not (field_good file (field at 4 n also))) (number_bytes 4 n) (take 4 (drop at file))
      → field_good m (field at 4 n also) ≡ true =
      λ at n also l f e. field_mended file m at n also (field_good file (field at 4 n also)) refl l (part_mended at 4 f ∙ e) in
      let kept : (k : ℕ) → every (spared (field_at b h s k).at (field_at b h s k).size) ≡ true
      → (field_at b h s k).at + (field_at b h s k).size ≤ header_length → field_good file (field_at b h s k) ≡ true → field_good m (field_at b h s k) ≡ true =
      λ k. field_kept (field_at b h s k) in
      let free : (at : ℕ) (n : ℕ) → (eqb (number_at 4 m at) n || true) ≡ true = λ at n. or-true (eqb (number_at 4 m at) n) in
      all_kept
      (keep (eq-eqb (length m) (file_length h s) (length_mended b h s file))
      (keep (ap black_and_white palette_kept ∙ palette_good)
      (keep (kept 0 refl (omega arith) (field_test 0))
      (keep (own 2 (file_length h s) Only (omega arith) (omega arith) (header_2 b h s file long))
      (keep (own 6 0 Only (omega arith) (omega arith) (header_6 b h s file long))
      (keep (kept 3 refl (omega arith) (field_test 3))
      (keep (kept 4 refl (omega arith) (field_test 4))
      (keep (kept 5 refl (omega arith) (field_test 5))
      (keep (kept 6 refl (omega arith) (field_test 6))
      (keep (kept 7 refl (omega arith) (field_test 7))
      (keep (kept 8 refl (omega arith) (field_test 8))
      (keep (kept 9 refl (omega arith) (field_test 9))
      (keep (own 34 (h * s) (Or 0) (omega arith) (omega arith) (header_34 b h s file long))
      (keep (free 38 0)
      (keep (free 42 0)
      (keep (own 46 0 (Or 2) (omega arith) (omega arith) (header_46 b h s file long))
      (keep (free 50 0) (keep (free 54 0) (keep (free 58 0xFFFFFF) none)))))))))))))))))))

  -- ---- the bytes that stay, and those that are added

  -- a byte of the file that is in no field that is mended, and no padding, stays
  pub byte_elsewhere : (k : ℕ) → k < length file → elsewhere b s k ≡ true → mended_byte b h s file k ≡ get_or file k 0
  byte_elsewhere k l e =
      let header : List ℕ = mended_header b h s file in
      elim (dec_lt k header_length) [
        | yes q ↦
            let apart : every (spared k 1) ≡ true = rw (lt-ltb k header_length q) at e in
            byte_header b s header _ file k q
            ∙ byte_part k header
            ∙ ap (λ (p : List ℕ). get_or p 0 0) (header_kept b h s file long k 1 apart (omega arith))
            ∙ sym (byte_part k file)
        | no q ↦
            let after : header_length ≤ k = omega arith in
            let row = ltb-true ((k - header_length) % s) b (rw (le-ltb k header_length after) at e) in
            byte_kept b s header _ file k after row l
      ]

  -- a missing byte of a row is white by the file's own palette
  pub byte_white : (k : ℕ) → length file ≤ k → k < file_length h s → (k - header_length) % s < b
      → dots_of (palette_of file) (get_or (mended_file b h s file) k 0) ≡ 0xFF
  byte_white k l f row =
      let after : header_length ≤ k = omega (arith, long) in
      ap (dots_of (palette_of file))
      (byte_mended b h s file k f ∙ byte_missing b s (mended_header b h s file) (white_byte (palette_of file)) file k after row l)
      ∙ white_dots (palette_of file)
    where
      white_dots : (palette : Option Palette) → dots_of palette (white_byte palette) ≡ 0xFF
      white_dots (Some BlackFirst) = refl
      white_dots (Some WhiteFirst) = refl
      white_dots None = refl

  pub byte_after : (k : ℕ) → length file ≤ k → k < file_length h s → b ≤ (k - header_length) % s → get_or (mended_file b h s file) k 0 ≡ 0
  byte_after k l = padding_byte b h s file k (omega (arith, long))

-- ---- an accepted file with zero padding stays as it is

module _ (b h s : ℕ) (file : List ℕ) (good : bitmap_good b h s file ≡ true) where
  -- the tests of the check
  abbrev checks : List Bool
  checks = eqb (length file) (file_length h s) ∷ black_and_white (palette_of file) ∷ tests (field_good file) b h s

  pub whole : length file ≡ file_length h s
  unfolding bitmap_good
  whole = eqb-true (length file) (file_length h s) (holds 0 checks good)

  fields_good : every (map (field_good file) (header_fields b h s)) ≡ true
  unfolding bitmap_good
  fields_good = sym (others 2 checks (keep (holds 0 checks good) (keep (holds 1 checks good) none))) ∙ good

  -- it can be mended
  pub good-mendable : mendable b h s file ≡ true
  unfolding bitmap_good
  good-mendable =
      fields_decide b h s file (omega (arith, whole)) (omega (arith, whole)) (holds 1 checks good)
      ∙ good_mended file (header_fields b h s) fields_good

  header_same : mended_header b h s file ≡ take header_length file
  unfolding mended_header
  header_same = good_stays file (header_fields b h s) (take header_length file) fields_good

  module _ (zeros : ZeroPadding b h s file) where
    -- each byte stays
    byte_same : (k : ℕ) → k < file_length h s → mended_byte b h s file k ≡ get_or file k 0
    byte_same k l =
        let header : List ℕ = mended_header b h s file in
        elim (dec_lt k header_length) [
          | yes q ↦
              byte_header b s header _ file k q
              ∙ ap (λ (x : List ℕ). get_or x k 0) header_same
              ∙ get_or-take header_length file k 0 q
          | no q ↦
              let after : header_length ≤ k = omega arith in
              elim (dec_lt ((k - header_length) % s) b) [
                | yes p ↦ byte_kept b s header _ file k after p (omega (arith, whole))
                | no p ↦
                    let e : header_length + (k - header_length) ≡ k = omega arith in
                    let pad : b ≤ (k - header_length) % s = omega arith in
                    byte_padding b s header _ file k after pad
                    ∙ sym (ap (λ (n : ℕ). get_or file n 0) (sym e) ∙ zeros (k - header_length) (omega arith) pad)
              ]
        ]

    pub file_same : mended_file b h s file ≡ file
    file_same = sym (is-tabulate file (file_length h s) (mended_byte b h s file) whole (λ k l. sym (byte_same k l)))

    pub none_listed : changes b h s file ≡ []
    none_listed = none_changed file (mended_byte b h s file) (length file) (λ k l. byte_same k (omega (arith, whole)))
