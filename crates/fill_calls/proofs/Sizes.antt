-- What the calls leave of a slot has as many bytes as before, and is bytes where the slot, the fill and the chunk are.
-- Assumes nothing.
use mathlib.Core.Path.{◌≡◌, refl}
use mathlib.Core.Bool.{Bool, true, false, not}
use mathlib.Core.List.{List, [], ◌∷◌}
use Prim.Native.Nat.{ℕ, ◌*◌, ◌≤◌, ◌<◌}
use native.Mathlib.Omega.{arith}
use lib.ListN.{length, length-replicate}
use lib.Dec.{eqb}
use Rattle.lists.specs.Rules.{case, first_of}
use Rattle.picture.proofs.Pictures.{Bytes}
use Rattle.picture.proofs.Slots.{Rows}
use Rattle.bitmap.specs.Header.{header_length, file_length}
use Rattle.fill.specs.Fills.{empty_fill}
use Rattle.fill.specs.Feeding.{bytes_fed}
use Rattle.fill_calls.specs.Calls.{goes_on, fed, white_slot, ended, feeding, finishing, cancelling}
use Rattle.fill.specs.declared.Fill.{Fill}
use Rattle.fill_calls.specs.declared.Fed.{Fed}
use Rattle.fill.proofs.Sizes.{bytes_same, chunk_sound}
use Rattle.fill_calls.proofs.Calls.{goes_fits}

module _ (b h s : ℕ) (some : 0 < b) (narrow : b ≤ 33) (within : b ≤ s) (stride : s ≤ 36) where
  white_size : length (white_slot b h) ≡ h * b
  white_size = length-replicate {A = ℕ} (h * b) 0xFF

  white_rows : Rows b h (white_slot b h)
  white_rows = (white_size, bytes_same (h * b) 0xFF (omega arith))

  module _ (fill : Fill) (long : length fill.kept ≡ header_length) (raw : List ℕ) (size : length raw ≡ h * b) where
    fed_left : (chunk : List ℕ) (are : Type 0) → (are → Bytes fill.kept × Bytes raw × Bytes chunk)
        → (length (feeding b h s fill chunk raw).1 ≡ h * b) × (are → Bytes (feeding b h s fill chunk raw).1)
    unfolding feeding
    fed_left chunk are bytes = go (goes_on b h s fill chunk) refl
      where
        go : (t : Bool) → goes_on b h s fill chunk ≡ t
            → (length (first_of {A = Fed × List ℕ} (case (not t) 4 ∷ []) (ended b h)
            (fed 0 (bytes_fed b h s (fill, raw) chunk).0, (bytes_fed b h s (fill, raw) chunk).1)).1 ≡ h * b)
            × (are → Bytes (first_of {A = Fed × List ℕ} (case (not t) 4 ∷ []) (ended b h)
            (fed 0 (bytes_fed b h s (fill, raw) chunk).0, (bytes_fed b h s (fill, raw) chunk).1)).1)
        go true e =
            let sound = chunk_sound b h s some narrow within stride chunk fill raw are (long, size, λ a. ((bytes a).0, (bytes a).1))
            (λ a. (bytes a).2) (goes_fits b h s fill chunk e) in
            (sound.1, λ a. (sound.2 a).1)
        go false e = (white_size, λ a. white_rows.1)

    -- a chunk, taken or refused
    pub length-fed : (chunk : List ℕ) → length (feeding b h s fill chunk raw).1 ≡ h * b
    length-fed chunk = (fed_left chunk ⊥ (λ a. absurd a)).0

    pub rows-fed : Bytes fill.kept → Bytes raw → (chunk : List ℕ) → Bytes chunk → Rows b h (feeding b h s fill chunk raw).1
    rows-fed bk br chunk bc = let left = fed_left chunk ℕ (λ a. (bk, br, bc)) in (left.0, left.1 0)

  -- the end of a file, taken or refused, and a fill that is given up
  module _ (fill : Fill) (raw : List ℕ) where
    finished_left : (P : List ℕ → Type 0) → P raw → P (white_slot b h) → P (finishing b h s fill raw).1
    unfolding finishing
    finished_left P old white = go (eqb fill.came (file_length h s))
      where
        go : (t : Bool) → P (first_of {A = Fed × List ℕ} (case (not t) 4 ∷ []) (ended b h) (fed 0 empty_fill, raw)).1
        go true = old
        go false = white

    pub length-finished : length raw ≡ h * b → length (finishing b h s fill raw).1 ≡ h * b
    length-finished size = finished_left (λ l. length l ≡ h * b) size white_size

    pub rows-finished : Rows b h raw → Rows b h (finishing b h s fill raw).1
    rows-finished rows = finished_left (Rows b h) rows white_rows

  pub rows-cancelled : Rows b h (cancelling b h).1
  unfolding cancelling
  rows-cancelled = white_rows
