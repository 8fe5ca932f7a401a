-- What the bytes of a chunk leave of a slot has as many bytes as before, and is bytes where the slot, the fill and the chunk are.
-- Assumes nothing.
use Rattle.std.proofs.Common.{Option}
use mathlib.Core.Path.{◌≡◌, refl, ◌∙◌}
use mathlib.Core.Bool.{cond}
use mathlib.Core.List.{List, [], ◌∷◌, ◌++◌, map}
use Prim.Native.Nat.{ℕ, zero, suc, ◌+◌, ◌-◌, ◌*◌, ◌≤◌, ◌<◌}
use native.Mathlib.Omega.{arith}
use native.Mathlib.Decide.{ℕ_discrete}
use borrow.Author.Tests.{eq-eqb, ne_eqb}
use lib.ListN.{length, take, drop, replicate, length-map}
use lib.Dec.{eqb}
use lib.Seq.{length-take-le}
use Rattle.lists.specs.Lists.{overlay_at}
use Rattle.lists.proofs.Lists.{length-overlay_at}
use Rattle.lists.proofs.Parts.{more_rows}
use Rattle.picture.specs.Slots.{picture_of}
use Rattle.picture.proofs.Pictures.{Bytes, bytes_take, bytes_drop, bytes_append}
use Rattle.picture.proofs.Slots.{length_raw, length_picture, rows_picture, rows_raw}
use Rattle.bitmap.specs.Header.{header_length, file_length}
use Rattle.bitmap.specs.Palettes.{dots_of}
use Rattle.bitmap.specs.declared.Palette.{Palette}
use Rattle.bitmap.proofs.Palettes.{dots_lt}
use Rattle.fill.specs.Fills.{rows_come, kept_count}
use Rattle.fill.specs.Feeding.{keeping, with_row, completed, piece_fed, bytes_fed}
use Rattle.fill.specs.declared.Fill.{Fill}
use Rattle.fill.proofs.Pieces.{count_lt, rows_some, rows_few, part_le}
use Rattle.fill.proofs.Taken.{piece_came}

-- ---- bytes stay bytes

bytes_map : (f : ℕ → ℕ) → ((x : ℕ) → x < 256 → f x < 256) → (l : List ℕ) → Bytes l → Bytes (map f l)
bytes_map f h [] are k = omega arith
bytes_map f h (x ∷ l) are zero = h x (are 0)
bytes_map f h (x ∷ l) are (suc k) = bytes_map f h l (λ i. are (suc i)) k

pub bytes_same : (n v : ℕ) → v < 256 → Bytes (replicate n v)
bytes_same zero v h k = omega arith
bytes_same (suc n) v h zero = h
bytes_same (suc n) v h (suc k) = bytes_same n v h k

bytes_overlay : (at : ℕ) (bytes out : List ℕ) → Bytes bytes → Bytes out → Bytes (overlay_at at bytes out)
bytes_overlay at bytes out p q =
    let rest : List ℕ = drop (length bytes) (drop at out) in
    bytes_append (take at out) (bytes ++ rest) (bytes_take at out q)
    (bytes_append bytes rest p (bytes_drop (length bytes) (drop at out) (bytes_drop at out q)))

-- ---- a row

module _ (b h : ℕ) (some : 0 < b) (palette : Option Palette) (y : ℕ) (low : y < h) (row raw : List ℕ) (long : b ≤ length row)
    (size : length raw ≡ h * b) where
  abbrev dots : List ℕ
  dots = map (dots_of palette) (take b row)

  length-put : length (overlay_at (y * b) dots (picture_of b h raw)) ≡ h * b
  length-put =
      let l : length dots ≡ b = length-map (take b row) (dots_of palette) ∙ length-take-le b row long in
      let p : length (picture_of b h raw) ≡ h * b = length_picture b h raw size in
      length-overlay_at (y * b) (picture_of b h raw) dots (omega (arith, more_rows y h b low)) ∙ p

  length_row : length (with_row b h palette y row raw) ≡ h * b
  length_row = length_raw b h (overlay_at (y * b) dots (picture_of b h raw)) length-put

  bytes_row : Bytes row → Bytes raw → Bytes (with_row b h palette y row raw)
  bytes_row p q =
      let d : Bytes dots = bytes_map (dots_of palette) (dots_lt palette) (take b row) (bytes_take b row p) in
      let put : Bytes (overlay_at (y * b) dots (picture_of b h raw)) =
      bytes_overlay (y * b) dots (picture_of b h raw) d (rows_picture b h some raw (size, q)).1 in
      (rows_raw b h some (overlay_at (y * b) dots (picture_of b h raw)) (length-put, put)).1

-- ---- a chunk

module _ (b h s : ℕ) (some : 0 < b) (narrow : b ≤ 33) (within : b ≤ s) (stride : s ≤ 36) where
  -- a fill and a slot of the right lengths, and bytes where others are
  abbrev pub Sound : (here : Fill × List ℕ) (are : Type 0) → Type 0
  Sound here are =
      (length here.0.kept ≡ header_length) × (length here.1 ≡ h * b) × (are → Bytes here.0.kept × Bytes here.1)

  completed_sound : (fill : Fill) (raw : List ℕ) (are : Type 0) → Sound (fill, raw) are
      → ((fill.came ≡ header_length → ⊥) → (0 < rows_come s fill.came) × (rows_come s fill.came ≤ h))
      → Sound (completed b h s fill raw) are
  unfolding completed
  completed_sound fill raw are sound low =
      elim (ℕ_discrete fill.came header_length) [
        | yes e ↦ rw (eq-eqb fill.came header_length e) (refl, sound.1, λ a. (bytes_same header_length 0 (omega arith), (sound.2 a).1))
        | no n ↦
            let y : ℕ = h - rows_come s fill.came in
            let less : y < h = omega (arith, (low n).0, (low n).1) in
            let long : b ≤ length fill.kept = omega (arith, sound.0) in
            rw (ne_eqb fill.came header_length n) (
              refl,
              length_row b h some fill.palette y less fill.kept raw long sound.1,
              λ a. (
                bytes_same header_length 0 (omega arith),
                bytes_row b h some fill.palette y less fill.kept raw long sound.1 (sound.2 a).0 (sound.2 a).1,
              ),
            )
      ]

  byte_sound : (fill : Fill) (raw : List ℕ) (x : ℕ) (are : Type 0) → Sound (fill, raw) are → (are → x < 256)
      → fill.came + 1 ≤ file_length h s
      → Sound (piece_fed b h s fill raw (x ∷ [])) are
  unfolding piece_fed
  byte_sound fill raw x are sound byte fits = go (ℕ_discrete (kept_count s (fill.came + 1)) 0)
    where
      pos : 0 < s
      pos = omega arith

      room : kept_count s fill.came + 1 ≤ header_length
      room = omega (arith, count_lt s fill.came pos, part_le s (omega arith) fill.came)

      one : x < 256 → Bytes (x ∷ [])
      one h zero = h
      one h (suc k) = omega arith

      kept : Sound (keeping s fill (x ∷ []), raw) are
      kept = (
        length-overlay_at (kept_count s fill.came) fill.kept (x ∷ []) (omega (arith, room, sound.0)) ∙ sound.0,
        sound.1,
        λ a. (bytes_overlay (kept_count s fill.came) (x ∷ []) fill.kept (one (byte a)) (sound.2 a).0, (sound.2 a).1),
      )

      go : Dec (kept_count s (fill.came + 1) ≡ 0)
          → Sound (cond (eqb (kept_count s (fill.came + 1)) 0) (completed b h s (keeping s fill (x ∷ [])) raw)
          (keeping s fill (x ∷ []), raw)) are
      go (yes z) =
          rw (eq-eqb (kept_count s (fill.came + 1)) 0 z)
          (completed_sound (keeping s fill (x ∷ [])) raw are kept
          (λ other. (
            rows_some s fill.came pos 1 (omega arith) (omega (arith, count_lt s fill.came pos)) z other,
            rows_few h s (fill.came + 1) pos fits,
          )))
      go (no n) = rw (ne_eqb (kept_count s (fill.came + 1)) 0 n) kept

  pub chunk_sound : (chunk : List ℕ) (fill : Fill) (raw : List ℕ) (are : Type 0) → Sound (fill, raw) are → (are → Bytes chunk)
      → fill.came + length chunk ≤ file_length h s → Sound (bytes_fed b h s (fill, raw) chunk) are
  chunk_sound [] fill raw are sound bytes fits = sound
  chunk_sound (x ∷ chunk) fill raw are sound bytes fits =
      let one : Fill × List ℕ = piece_fed b h s fill raw (x ∷ []) in
      chunk_sound chunk one.0 one.1 are (byte_sound fill raw x are sound (λ a. bytes a 0) (omega arith)) (λ a k. bytes a (suc k))
      (omega (arith, piece_came b h s fill raw (x ∷ [])))
