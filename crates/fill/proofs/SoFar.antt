-- Request 2026-02: what the bytes of a chunk make of a fill and its slot, over the bytes of the file that have come so far.
-- Assumes nothing.
use mathlib.Core.Path.{◌≡◌, refl, ap, ◌∙◌}
use mathlib.Core.List.{List, [], ◌∷◌, ◌++◌, append-nil}
use Prim.Native.Nat.{ℕ, zero, suc, ◌+◌, ◌≤◌, ◌<◌}
use native.Mathlib.Nat.{zero-div}
use native.Mathlib.Omega.{arith}
use lib.ListN.{length, length-append}
use lib.Seq.{append_snoc}
use Rattle.picture.proofs.Pictures.{Bytes, bytes_append}
use Rattle.picture.proofs.Slots.{Rows}
use Rattle.bitmap.specs.Header.{header_length, file_length}
use Rattle.fill.specs.Fills.{begun_fill, fill_of, slot_of}
use Rattle.fill.specs.Feeding.{piece_fed, bytes_fed}
use Rattle.fill.specs.declared.Fill.{Fill}
use Rattle.fill.proofs.Fills.{slot_none}
use Rattle.fill.proofs.Steps.{fill_step, step}

-- one byte
byte : (x : ℕ) → x < 256 → Bytes (x ∷ [])
byte x h zero = h
byte x h (suc k) = omega arith

-- ---- the fill, whatever its slot holds

module _ (b h s : ℕ) (some : 0 < s) (near : s ≤ header_length) (slot : ℕ) where
  -- a chunk makes of the fill that of its bytes too
  pub fill_fed : (chunk l raw : List ℕ) → (bytes_fed b h s (fill_of s slot l, raw) chunk).0 ≡ fill_of s slot (l ++ chunk)
  fill_fed [] l raw = rw (append-nil l)
  fill_fed (x ∷ chunk) l raw =
      let raw' : List ℕ = (piece_fed b h s (fill_of s slot l) raw (x ∷ [])).1 in
      ap (λ (f : Fill). (bytes_fed b h s (f, raw') chunk).0) (fill_step b h s some near slot l x raw)
      ∙ fill_fed chunk (l ++ (x ∷ [])) raw'
      ∙ rw (append_snoc l x chunk)

-- ---- the fill and its slot

-- a slot of a picture's size, that is being filled
module _ (b h s : ℕ) (some : 0 < b) (narrow : b ≤ 33) (within : b ≤ s) (stride : s ≤ 36) (low : h ≤ 176) (slot : ℕ) (raw : List ℕ)
    (rows : Rows b h raw) where
  -- a chunk makes of the fill and the slot those of its bytes too
  pub bytes_fed_lem : (chunk l : List ℕ) → Bytes l → Bytes chunk → length l + length chunk ≤ file_length h s
      → bytes_fed b h s (fill_of s slot l, slot_of b h s l raw) chunk ≡ (fill_of s slot (l ++ chunk), slot_of b h s (l ++ chunk) raw)
  bytes_fed_lem [] l bl bc fits = rw (append-nil l)
  bytes_fed_lem (x ∷ chunk) l bl bc fits =
      let bx : Bytes (l ++ (x ∷ [])) = bytes_append l (x ∷ []) bl (byte x (bc 0)) in
      let more : length (l ++ (x ∷ [])) + length chunk ≤ file_length h s = omega (arith, length-append l (x ∷ [])) in
      rw (step b h s some within stride slot raw rows l x bl (omega arith))
      (bytes_fed_lem chunk (l ++ (x ∷ [])) bx (λ k. bc (suc k)) more ∙ rw (append_snoc l x chunk))

  -- before the first byte
  pub begun_so_far : (begun_fill slot ≡ fill_of s slot []) × (slot_of b h s [] raw ≡ raw)
  unfolding fill_of
  begun_so_far = (refl, slot_none b h s some [] raw rows (zero-div s))
