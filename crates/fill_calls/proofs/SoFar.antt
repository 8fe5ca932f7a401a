-- Request 2026-02: what the calls make of a fill, over the bytes of the file that have come so far.
-- Assumes nothing.
use mathlib.Core.Path.{◌≡◌, refl, ap, ◌∙◌}
use mathlib.Core.Bool.{Bool, true, false, cond, not}
use mathlib.Core.List.{List, [], ◌∷◌, ◌++◌, append-nil}
use Prim.Native.Nat.{ℕ, ◌≤◌, ◌<◌}
use native.Mathlib.Omega.{arith}
use native.Mathlib.Decide.{dec_lt, ℕ_discrete}
use borrow.Author.Tests.{le-leb, lt-leb, eq-eqb, ne_eqb}
use lib.ListN.{length, take, drop, length-append}
use lib.Seq.{take_at}
use Rattle.lists.specs.Lists.{overlay}
use Rattle.lists.specs.Rules.{case, first_of}
use Rattle.picture.specs.Slots.{raw_of}
use Rattle.picture.proofs.Pictures.{Bytes}
use Rattle.picture.proofs.Slots.{Rows}
use Rattle.bitmap.specs.Header.{header_length, file_length}
use Rattle.bitmap.specs.Bitmap.{bitmap_good}
use Rattle.bitmap_codec.specs.Codec.{read_picture}
use Rattle.bitmap.proofs.Check.{wrong_length}
use Rattle.bitmap_prefix.specs.Begins.{begins_good}
use Rattle.bitmap_prefix.proofs.Begins.{begins-fits, begins-header, header_same}
use Rattle.bitmap_prefix.proofs.Whole.{begins-good}
use Rattle.fill.specs.Fills.{none_kept, empty_fill, rows_come, fill_of, slot_of}
use Rattle.fill.specs.Feeding.{bytes_fed}
use Rattle.fill_calls.specs.Calls.{goes_on, fed, ended, feeding, finishing}
use Rattle.fill_calls.specs.declared.Fed.{Fed}
use Rattle.fill.proofs.Fills.{fill_header, fill_came, slot_all, rows_come_lem}
use Rattle.fill.proofs.SoFar.{fill_fed, bytes_fed_lem}

-- ---- the fill, whatever its slot holds

module _ (b h s : ℕ) (some : 0 < s) (near : s ≤ header_length) (slot : ℕ) where
  module _ (l : List ℕ) (begins : begins_good b h s l ≡ true) (chunk : List ℕ) where
    -- the test of a chunk is that of the bytes so far
    pub goes_on_lem : goes_on b h s (fill_of s slot l) chunk ≡ begins_good b h s (l ++ chunk)
    unfolding goes_on begins_good
    goes_on_lem =
        elim (dec_lt (length l) header_length) [
          | yes q ↦
              let front : take (length l) (overlay l none_kept) ≡ l = take_at l (drop (length l) none_kept) (length l) refl in
              rw (fill_header s slot l q, lt-leb header_length (length l) q, front, length-append)
          | no q ↦
              let room : header_length ≤ length l = omega arith in
              rw (
                fill_came s slot l,
                le-leb header_length (length l) room,
                length-append,
                header_same l chunk room b h s,
                begins-header b h s l begins,
              )
        ]

    -- what a chunk gives back: the fill of its bytes too, or 4 where no good file can follow any more
    pub fill_so_far : (raw : List ℕ) → (feeding b h s (fill_of s slot l) chunk raw).0
        ≡ cond (begins_good b h s (l ++ chunk)) (fed 0 (fill_of s slot (l ++ chunk))) (fed 4 empty_fill)
    unfolding feeding
    fill_so_far raw = rw goes_on_lem (go (begins_good b h s (l ++ chunk)))
      where
        go : (t : Bool)
            → (first_of {A = Fed × List ℕ} (case (not t) 4 ∷ []) (ended b h)
            (fed 0 (bytes_fed b h s (fill_of s slot l, raw) chunk).0, (bytes_fed b h s (fill_of s slot l, raw) chunk).1)).0
            ≡ cond t (fed 0 (fill_of s slot (l ++ chunk))) (fed 4 empty_fill)
        go true = ap (fed 0) (fill_fed b h s some near slot chunk l raw)
        go false = refl

-- ---- the fill and its slot

-- a slot of a picture's size, that is being filled
module _ (b h s : ℕ) (some : 0 < b) (narrow : b ≤ 33) (within : b ≤ s) (stride : s ≤ 36) (low : h ≤ 176) (slot : ℕ) (raw : List ℕ)
    (rows : Rows b h raw) where
  module _ (l : List ℕ) (bl : Bytes l) (begins : begins_good b h s l ≡ true) where
    -- a chunk: the fill and the slot of its bytes too, or 4 where no good file can follow any more
    pub fed_so_far : (chunk : List ℕ) → Bytes chunk
        → feeding b h s (fill_of s slot l) chunk (slot_of b h s l raw)
        ≡ cond (begins_good b h s (l ++ chunk)) (fed 0 (fill_of s slot (l ++ chunk)), slot_of b h s (l ++ chunk) raw) (ended b h 4)
    unfolding feeding
    fed_so_far chunk bc = rw (goes_on_lem b h s (omega arith) (omega arith) slot l begins chunk) (go (begins_good b h s (l ++ chunk)) refl)
      where
        go : (t : Bool) → begins_good b h s (l ++ chunk) ≡ t
            → first_of (case (not t) 4 ∷ []) (ended b h) (
              fed 0 (bytes_fed b h s (fill_of s slot l, slot_of b h s l raw) chunk).0,
              (bytes_fed b h s (fill_of s slot l, slot_of b h s l raw) chunk).1,
            )
            ≡ cond t (fed 0 (fill_of s slot (l ++ chunk)), slot_of b h s (l ++ chunk) raw) (ended b h 4)
        go true e =
            rw (bytes_fed_lem b h s some narrow within stride low slot raw rows chunk l bl bc
            (omega (arith, begins-fits b h s (l ++ chunk) e, length-append l chunk)))
        go false e = refl

    -- an empty chunk changes nothing
    pub empty_fed : feeding b h s (fill_of s slot l) [] (slot_of b h s l raw) ≡ (fed 0 (fill_of s slot l), slot_of b h s l raw)
    empty_fed = fed_so_far [] (λ k. omega arith) ∙ rw (append-nil l, begins)

    -- the end of the file: the slot holds its picture, or 4 where it is not a good one
    pub finished_so_far : finishing b h s (fill_of s slot l) (slot_of b h s l raw)
        ≡ cond (bitmap_good b h s l) (fed 0 empty_fill, raw_of b h (read_picture b h s l)) (ended b h 4)
    unfolding finishing
    finished_so_far =
        elim (ℕ_discrete (length l) (file_length h s)) [
          | yes e ↦
              let good : bitmap_good b h s l ≡ true = begins-good b h s narrow low stride l bl e begins in
              let all : rows_come s (length l) ≡ h = rows_come_lem s l h 0 (omega arith) (omega arith) in
              rw (fill_came s slot l, eq-eqb (length l) (file_length h s) e, good, slot_all b h s l raw all)
          | no n ↦ rw (fill_came s slot l, ne_eqb (length l) (file_length h s) n, ← wrong_length b h s l n)
        ]
