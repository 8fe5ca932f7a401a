-- The conditions of a fill hold of exactly the fills that bytes of a good file leave.
-- Assumes nothing.
use Rattle.std.proofs.Common.{Option, Some, None}
use mathlib.Core.Path.{◌≡◌, refl, sym, ap, ◌∙◌}
use mathlib.Core.Bool.{true, not, ◌&&◌, ◌||◌, or-true, false≢true}
use mathlib.Core.List.{List, [], ◌∷◌, ◌++◌}
use Prim.Native.Nat.{ℕ, zero, suc, ◌+◌, ◌-◌, ◌*◌, ◌/◌, ◌%◌, ◌≤◌, ◌<◌}
use native.Mathlib.Omega.{arith}
use native.Mathlib.Decide.{dec_lt}
use borrow.Author.Tests.{lt-ltb, le-ltb, le-leb, leb-true, eq-eqb, eqb-true}
use lib.Dec.{eqb}
use lib.ListN.{length, get_or, take, drop, replicate, length-append, length-drop, take-append-drop}
use lib.Seq.{take_at, drop_at, length-take-le}
use Rattle.lists.specs.Lists.{overlay}
use Rattle.lists.specs.Rules.{every}
use Rattle.lists.proofs.Lists.{length-overlay}
use Rattle.lists.proofs.Rules.{none, keep, all_kept, holds, and_left, and_right}
use Rattle.picture.proofs.Pictures.{Bytes, bytes_take, bytes_append}
use Rattle.bitmap.specs.Header.{header_length, file_length}
use Rattle.bitmap.specs.Palettes.{palette_of, black_and_white}
use Rattle.bitmap.specs.Bitmap.{bitmap_good}
use Rattle.bitmap.specs.declared.Palette.{Palette}
use Rattle.bitmap.specs.declared.Palette.TheVariants.{BlackFirst, WhiteFirst}
use Rattle.bitmap_prefix.specs.Begins.{header_begins, begins_good}
use Rattle.bitmap_prefix.proofs.Begins.{both, begins-fits, begins-header, begins_empty, header_front, header_same}
use Rattle.bitmap_prefix.proofs.Whole.{begins_palette, good_length, good-begins}
use Rattle.bitmap_prefix.proofs.Meaning.{good_with}
use Rattle.fill.specs.Fills.{fill_with, none_kept, begun_fill, empty_fill, kept_count, fill_of}
use Rattle.fill.specs.Conditions.{all_zero, header_rule, fill_rules, fill_valid}
use Rattle.fill.specs.declared.Fill.{Fill}
use Rattle.fill.proofs.Pieces.{row_of, row_part}
use Rattle.fill.proofs.Fills.{fill_header, fill_row, palette_same}

-- ---- zeros

zeros : (n m : ℕ) → all_zero (drop n (replicate m 0)) ≡ true
zeros zero zero = refl
zeros zero (suc m) = zeros zero m
zeros (suc n) zero = refl
zeros (suc n) (suc m) = zeros n m

-- after the bytes that are kept there is 0
kept_zero : (bytes : List ℕ) → all_zero (drop (length bytes) (overlay bytes none_kept)) ≡ true
kept_zero bytes = rw (drop_at bytes (drop (length bytes) none_kept) (length bytes) refl) (zeros (length bytes) header_length)

zeros_are : (l : List ℕ) → all_zero l ≡ true → l ≡ replicate (length l) 0
zeros_are [] e = refl
zeros_are (x ∷ l) e =
    let z : x ≡ 0 = eqb-true x 0 (and_left (eqb x 0) (all_zero l) e) in
    rw z (ap (λ (m : List ℕ). 0 ∷ m) (zeros_are l (and_right (eqb x 0) (all_zero l) e)))

drop_zeros : (n m : ℕ) → drop {A = ℕ} n (replicate m 0) ≡ replicate (m - n) 0
drop_zeros zero m = let e : m - 0 ≡ m = omega arith in rw e
drop_zeros (suc n) zero = let e : 0 - suc n ≡ 0 = omega arith in rw e
drop_zeros (suc n) (suc m) = let e : suc m - suc n ≡ m - n = omega arith in rw e (drop_zeros n m)

-- so the bytes that are kept are all that there is
kept_are : (n : ℕ) (kept : List ℕ) → length kept ≡ header_length → n ≤ header_length → all_zero (drop n kept) ≡ true
    → kept ≡ overlay (take n kept) none_kept
kept_are n kept long h e =
    let l : length (take n kept) ≡ n = length-take-le n kept (omega arith) in
    let m : length (drop n kept) ≡ header_length - n = length-drop n kept ∙ omega arith in
    let z : drop n kept ≡ drop n none_kept = zeros_are (drop n kept) e ∙ rw m (sym (drop_zeros n header_length)) in
    sym (take-append-drop n kept) ∙ rw (l, z)

-- a fill, by its parts
fill_is : (fill : Fill) (came : ℕ) (palette : Option Palette) (kept : List ℕ) → fill.came ≡ came → fill.palette ≡ palette → fill.kept ≡ kept
    → fill ≡ fill_with fill.slot came palette kept
fill_is fill came palette kept e f g =
    ap (λ (c : ℕ). fill_with fill.slot c fill.palette fill.kept) e
    ∙ ap (λ (p : Option Palette). fill_with fill.slot came p fill.kept) f
    ∙ ap (fill_with fill.slot came palette) g

-- ---- the fills of bytes that begin a good file keep the conditions

module _ (b h s : ℕ) (some : 0 < b) (narrow : b ≤ 33) (within : b ≤ s) (stride : s ≤ 36) (low : h ≤ 176) where
  pos : 0 < s
  pos = omega arith

  module _ (slot : ℕ) (l : List ℕ) (begins : begins_good b h s l ≡ true) (placed : (not (eqb slot 0) || eqb (length l) 0) ≡ true) where
    pub valid_of : fill_valid b h s (fill_of s slot l) ≡ true
    unfolding fill_valid
    valid_of = go (dec_lt (length l) header_length)
      where
        go : Dec (length l < header_length) → every (fill_rules b h s (fill_of s slot l)) ≡ true
        go (yes q) =
            let front : take (length l) (overlay l none_kept) ≡ l = take_at l (drop (length l) none_kept) (length l) refl in
            let t = lt-ltb (length l) header_length q in
            let after : all_zero (drop (kept_count s (length l)) (overlay l none_kept)) ≡ true = rw t (kept_zero l) in
            let room = eq-eqb (length (overlay l none_kept)) header_length (length-overlay l none_kept (omega arith)) in
            let good : header_rule b h s (fill_with slot (length l) None (overlay l none_kept)) ≡ true =
            rw (t, front, begins-header b h s l begins) in
            rw (fill_header s slot l q)
            (all_kept (keep placed (keep (le-leb (length l) (file_length h s) (begins-fits b h s l begins))
            (keep room (keep after (keep good none))))))
        go (no q) =
            let j : ℕ = (length l - header_length) / s in
            let k : ℕ = (length l - header_length) % s in
            let part : k < s = row_part s (length l) pos in
            let come : length l ≡ header_length + (j * s + k) = row_of s (length l) pos (omega arith) in
            let row : List ℕ = drop (header_length + j * s) l in
            let is : k ≡ length row = sym (length-drop (header_length + j * s) l ∙ omega arith) in
            let t = le-ltb (length l) header_length (omega arith) in
            let after : all_zero (drop (kept_count s (length l)) (overlay row none_kept)) ≡ true = rw (t, is) (kept_zero row) in
            let room = eq-eqb (length (overlay row none_kept)) header_length (length-overlay row none_kept (omega arith)) in
            let good : header_rule b h s (fill_with slot (length l) (palette_of l) (overlay row none_kept)) ≡ true =
            rw t (begins_palette l (omega arith) b h s (begins-header b h s l begins)) in
            rw (fill_row s l j k part come slot)
            (all_kept (keep placed (keep (le-leb (length l) (file_length h s) (begins-fits b h s l begins))
            (keep room (keep after (keep good none))))))

  -- a fill for which no byte has come
  pub valid-begun : (slot : ℕ) → fill_valid b h s (begun_fill slot) ≡ true
  unfolding fill_of
  valid-begun slot = valid_of slot [] (begins_empty b h s) (or-true (not (eqb slot 0)))

  -- ---- a fill that keeps the conditions is one of bytes that begin a good file

  neither : (palette : Option Palette) → not (black_and_white palette) ≡ true → palette ≡ None
  neither (Some BlackFirst) e = absurd (false≢true e)
  neither (Some WhiteFirst) e = absurd (false≢true e)
  neither None e = refl

  module _ (fill : Fill) (valid : fill_valid b h s fill ≡ true) where
    -- something that begins a good file leaves it, and bytes where it keeps bytes
    abbrev pub Stands : Type 0
    Stands = (l : List ℕ) × (Bytes fill.kept → Bytes l) × (begins_good b h s l ≡ true) × (length l ≡ fill.came)
        × (fill ≡ fill_of s fill.slot l)

    rule : (k : ℕ) → get_or (fill_rules b h s fill) k true ≡ true
    unfolding fill_valid
    rule k = holds k (fill_rules b h s fill) valid

    pub long : length fill.kept ≡ header_length
    long = eqb-true (length fill.kept) header_length (rule 2)

    few : fill.came ≤ file_length h s
    few = leb-true fill.came (file_length h s) (rule 1)

    -- while the header comes they are those that it keeps
    stands-header : fill.came < header_length → Stands
    unfolding begins_good
    stands-header q =
        let l : List ℕ = take fill.came fill.kept in
        let t = lt-ltb fill.came header_length q in
        let is : length l ≡ fill.came = length-take-le fill.came fill.kept (omega (arith, long)) in
        let r : (header_begins b h s l && not (black_and_white fill.palette)) ≡ true = rw t at (rule 4) in
        let z : all_zero (drop fill.came fill.kept) ≡ true = rw t at (rule 3) in
        let palette = neither fill.palette (and_right (header_begins b h s l) (not (black_and_white fill.palette)) r) in
        let begins = both (le-leb (length l) (file_length h s) (omega arith))
        (and_left (header_begins b h s l) (not (black_and_white fill.palette)) r) in (
          l,
          λ bytes. bytes_take fill.came fill.kept bytes,
          begins,
          is,
          fill_is fill (length l) None (overlay l none_kept) (sym is) palette (kept_are fill.came fill.kept long (omega arith) z)
              ∙ sym (fill_header s fill.slot l (omega arith)),
        )

    -- then they are the front of a good file with its palette, and those that it keeps of the next row
    module _ (q : header_length ≤ fill.came) where
      part : (fill.came - header_length) % s < s
      part = row_part s fill.came pos

      come : fill.came ≡ header_length + ((fill.came - header_length) / s * s + (fill.came - header_length) % s)
      come = row_of s fill.came pos q

      good : black_and_white fill.palette ≡ true
      good = rw (le-ltb fill.came header_length q) at (rule 4)

      zero_after : all_zero (drop ((fill.came - header_length) % s) fill.kept) ≡ true
      zero_after = rw (le-ltb fill.came header_length q) at (rule 3)

      stands_row : Stands
      unfolding begins_good
      stands_row = go (good_with b h s narrow low stride fill.palette good)
        where
          go : ((file : List ℕ) × Bytes file × (bitmap_good b h s file ≡ true) × (palette_of file ≡ fill.palette)) → Stands
          go (file, bf, g, pal) =
              let j : ℕ = (fill.came - header_length) / s in
              let k : ℕ = (fill.came - header_length) % s in
              let n : ℕ = header_length + j * s in
              let e : length file ≡ file_length h s = good_length b h s file g in
              let front : List ℕ = take n file in
              let row : List ℕ = take k fill.kept in
              let l : List ℕ = front ++ row in
              let lf : length front ≡ n = length-take-le n file (omega (arith, come, few)) in
              let lr : length row ≡ k = length-take-le k fill.kept (omega (arith, part, long)) in
              let is : length l ≡ fill.came = length-append front row ∙ omega (arith, come) in
              let room : header_length ≤ length front = omega arith in
              let split : front ++ drop n file ≡ file = take-append-drop n file in
              let hf : header_begins b h s file ≡ true = begins-header b h s file (good-begins b h s narrow low stride file bf g) in
              let hb : header_begins b h s front ≡ true = header_front front (drop n file) b h s (ap (header_begins b h s) split ∙ hf) in
              let hl : header_begins b h s l ≡ true = header_same front row room b h s ∙ hb in
              let pl : palette_of l ≡ fill.palette =
              palette_same front row room ∙ sym (palette_same front (drop n file) room) ∙ ap palette_of split ∙ pal in
              let dl : drop n l ≡ row = drop_at front row n lf in
              let kept : fill.kept ≡ overlay row none_kept = kept_are k fill.kept long (omega (arith, part)) zero_after in (
                l,
                λ bytes. bytes_append front row (bytes_take n file bf) (bytes_take k fill.kept bytes),
                both (le-leb (length l) (file_length h s) (omega (arith, few))) hl,
                is,
                fill_is fill (length l) (palette_of l) (overlay (drop n l) none_kept) (sym is) (sym pl) (rw dl kept)
                    ∙ sym (fill_row s l j k part (is ∙ come) fill.slot),
              )

    pub stands : Stands
    stands = go (dec_lt fill.came header_length)
      where
        go : Dec (fill.came < header_length) → Stands
        go (yes q) = stands-header q
        go (no q) = stands_row (omega arith)

  -- with no slot it is the empty one
  pub none_empty : (fill : Fill) → fill_valid b h s fill ≡ true → fill.slot ≡ 0 → fill ≡ empty_fill
  unfolding fill_of
  none_empty fill valid absent = go (stands fill valid)
    where
      no_bytes : (l : List ℕ) → length l ≡ 0 → l ≡ []
      no_bytes [] e = refl
      no_bytes (x ∷ l) e = absurd (omega (arith, e))

      came : fill.came ≡ 0
      came = eqb-true fill.came 0 (rw (eq-eqb fill.slot 0 absent) at (rule fill valid 0))

      go : Stands fill valid → fill ≡ empty_fill
      go (l, are, begins, is, e) =
          e ∙ ap (λ (k : ℕ). fill_of s k l) absent ∙ ap (fill_of s 0) (no_bytes l (is ∙ came))
