-- Request 2026-02: however a file is cut, what its chunks do is what its bytes say.
-- Assumes nothing.
use mathlib.Core.Path.{◌≡◌, refl, sym, ap, ◌∙◌}
use mathlib.Core.Bool.{Bool, true, false, cond}
use mathlib.Core.List.{List, [], ◌∷◌, ◌++◌, append-nil, append_assoc}
use Prim.Native.Nat.{ℕ, ◌≤◌, ◌<◌}
use native.Mathlib.Omega.{arith}
use lib.Dec.{eqb}
use lib.ListN.{length, take, drop}
use lib.Seq.{take_at, drop_at}
use Rattle.picture.specs.Slots.{raw_of}
use Rattle.picture.proofs.Pictures.{Bytes, bytes_take, bytes_drop, bytes_append}
use Rattle.picture.proofs.Slots.{Rows}
use Rattle.bitmap.specs.Bitmap.{bitmap_good}
use Rattle.bitmap_codec.specs.Codec.{read_picture}
use Rattle.bitmap_prefix.specs.Begins.{begins_good}
use Rattle.bitmap_prefix.specs.Meaning.{CanBeGood}
use Rattle.bitmap_prefix.proofs.Begins.{Gives, begins_front, begins_empty}
use Rattle.bitmap_prefix.proofs.Whole.{good-begins}
use Rattle.bitmap_prefix.proofs.Meaning.{begins-can, can-begins}
use Rattle.fill.specs.Fills.{begun_fill, empty_fill, fill_of, slot_of}
use Rattle.fill_calls.specs.Calls.{fed, ended, feeding, finishing, joined, fed_all, sent}
use Rattle.fill.specs.declared.Fill.{Fill}
use Rattle.fill.proofs.SoFar.{begun_so_far}
use Rattle.fill_calls.proofs.SoFar.{fed_so_far, finished_so_far}

-- a test that fails where what follows from it does
gives_false : (a : Bool) {b : Bool} → Gives a b → b ≡ false → a ≡ false
gives_false true g e = sym (g refl) ∙ e
gives_false false g e = refl

-- the parts of a list of bytes
bytes_front : (l m : List ℕ) → Bytes (l ++ m) → Bytes l
bytes_front l m are = let e : take (length l) (l ++ m) ≡ l = take_at l m (length l) refl in rw e at (bytes_take (length l) (l ++ m) are)

bytes_back : (l m : List ℕ) → Bytes (l ++ m) → Bytes m
bytes_back l m are = let e : drop (length l) (l ++ m) ≡ m = drop_at l m (length l) refl in rw e at (bytes_drop (length l) (l ++ m) are)

-- a slot of a picture's size, that is being filled
module _ (b h s : ℕ) (some : 0 < b) (narrow : b ≤ 33) (within : b ≤ s) (stride : s ≤ 36) (low : h ≤ 176) (slot : ℕ) (raw : List ℕ)
    (rows : Rows b h raw) where
  -- what is refused stays so
  ended_stays : (chunks : List (List ℕ)) → fed_all b h s (ended b h 4) chunks ≡ ended b h 4
  ended_stays [] = refl
  ended_stays (chunk ∷ chunks) = refl

  -- chunks one after the other: the fill and the slot of all their bytes, or 4
  pub chunks_fed : (chunks : List (List ℕ)) (l : List ℕ) → Bytes l → Bytes (joined chunks) → begins_good b h s l ≡ true
      → fed_all b h s (fed 0 (fill_of s slot l), slot_of b h s l raw) chunks
      ≡ cond (begins_good b h s (l ++ joined chunks)) (fed 0 (fill_of s slot (l ++ joined chunks)), slot_of b h s (l ++ joined chunks) raw)
      (ended b h 4)
  chunks_fed [] l bl bc begins = rw (append-nil l, begins)
  chunks_fed (chunk ∷ chunks) l bl bc begins =
      let bh : Bytes chunk = bytes_front chunk (joined chunks) bc in
      let bt : Bytes (joined chunks) = bytes_back chunk (joined chunks) bc in
      rw (fed_so_far b h s some narrow within stride low slot raw rows l bl begins chunk bh, ← append_assoc l chunk (joined chunks))
      (go (begins_good b h s (l ++ chunk)) refl (λ e. chunks_fed chunks (l ++ chunk) (bytes_append l chunk bl bh) bt e))
    where
      Fed-so : (t : Bool) → Type 0
      Fed-so t = fed_all b h s (cond t (fed 0 (fill_of s slot (l ++ chunk)), slot_of b h s (l ++ chunk) raw) (ended b h 4)) chunks
          ≡ cond (begins_good b h s ((l ++ chunk) ++ joined chunks))
          (fed 0 (fill_of s slot ((l ++ chunk) ++ joined chunks)), slot_of b h s ((l ++ chunk) ++ joined chunks) raw) (ended b h 4)

      go : (t : Bool) → begins_good b h s (l ++ chunk) ≡ t → (begins_good b h s (l ++ chunk) ≡ true → Fed-so true) → Fed-so t
      go true e rest = rest e
      go false e rest = rw (gives_false (begins_good b h s ((l ++ chunk) ++ joined chunks))
          (begins_front (l ++ chunk) (joined chunks) b h s) e) (ended_stays chunks)

  -- cutting does not matter: chunks one after the other are all their bytes at once
  pub cut_same : (chunks : List (List ℕ)) (l : List ℕ) → Bytes l → Bytes (joined chunks) → begins_good b h s l ≡ true
      → fed_all b h s (fed 0 (fill_of s slot l), slot_of b h s l raw) chunks ≡ feeding b h s (fill_of s slot l) (joined chunks)
      (slot_of b h s l raw)
  cut_same chunks l bl bc begins = chunks_fed chunks l bl bc begins
      ∙ sym (fed_so_far b h s some narrow within stride low slot raw rows l bl begins (joined chunks) bc)

  -- chunks from the begin on
  pub begun-fed : (chunks : List (List ℕ)) → Bytes (joined chunks)
      → fed_all b h s (fed 0 (begun_fill slot), raw) chunks
      ≡ cond (begins_good b h s (joined chunks)) (fed 0 (fill_of s slot (joined chunks)), slot_of b h s (joined chunks) raw) (ended b h 4)
  begun-fed chunks bc =
      let begun = begun_so_far b h s some narrow within stride low slot raw rows in
      ap (λ (fill : Fill). fed_all b h s (fed 0 fill, raw) chunks) begun.0
      ∙ ap (λ (r : List ℕ). fed_all b h s (fed 0 (fill_of s slot []), r) chunks) (sym begun.1)
      ∙ chunks_fed chunks [] (λ k. omega arith) bc (begins_empty b h s)

  -- a file in chunks, however it is cut: the slot holds its picture, or 4 where it is not a good one
  pub sent-whole : (chunks : List (List ℕ)) → Bytes (joined chunks)
      → sent b h s slot chunks raw
      ≡ cond (bitmap_good b h s (joined chunks)) (fed 0 empty_fill, raw_of b h (read_picture b h s (joined chunks))) (ended b h 4)
  unfolding sent
  sent-whole chunks bc = rw (begun-fed chunks bc) (go (begins_good b h s (joined chunks)) refl)
    where
      go : (t : Bool) → begins_good b h s (joined chunks) ≡ t
          → (let after = cond t (fed 0 (fill_of s slot (joined chunks)), slot_of b h s (joined chunks) raw) (ended b h 4) in
          cond (eqb after.0.number 0) (finishing b h s after.0.fill after.1) after)
          ≡ cond (bitmap_good b h s (joined chunks)) (fed 0 empty_fill, raw_of b h (read_picture b h s (joined chunks))) (ended b h 4)
      go true e = finished_so_far b h s some narrow within stride low slot raw rows (joined chunks) bc e
      go false e = rw (gives_false (bitmap_good b h s (joined chunks)) (good-begins b h s narrow low stride (joined chunks) bc) e)

  -- ---- 4 comes exactly where no good file can follow any more

  module _ (l : List ℕ) (bl : Bytes l) (begins : begins_good b h s l ≡ true) (chunk : List ℕ) (bc : Bytes chunk) where
    -- some rest makes the bytes so far, with this chunk, a good file
    abbrev pub CanFollow : Type 0
    CanFollow = CanBeGood b h s (l ++ chunk)

    pub taken_where : CanFollow
        → feeding b h s (fill_of s slot l) chunk (slot_of b h s l raw) ≡ (fed 0 (fill_of s slot (l ++ chunk)), slot_of b h s (l ++ chunk) raw)
    taken_where can =
        fed_so_far b h s some narrow within stride low slot raw rows l bl begins chunk bc
        ∙ rw (can-begins b h s narrow low stride (l ++ chunk) (bytes_append l chunk bl bc) can)

    pub refused_where : (CanFollow → ⊥) → feeding b h s (fill_of s slot l) chunk (slot_of b h s l raw) ≡ ended b h 4
    refused_where cannot = fed_so_far b h s some narrow within stride low slot raw rows l bl begins chunk bc
        ∙ go (begins_good b h s (l ++ chunk)) refl
      where
        go : (t : Bool) → begins_good b h s (l ++ chunk) ≡ t
            → cond t (fed 0 (fill_of s slot (l ++ chunk)), slot_of b h s (l ++ chunk) raw) (ended b h 4) ≡ ended b h 4
        go true e = absurd (cannot (begins-can b h s narrow low stride (l ++ chunk) (bytes_append l chunk bl bc) e))
        go false e = refl
