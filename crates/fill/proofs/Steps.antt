-- What one byte does to the fill, and to the slot, for which some bytes of a file have come: they are those of one byte more.
-- Assumes nothing.
use Rattle.std.proofs.Common.{None}
use mathlib.Core.Path.{◌≡◌, refl, sym, ap, ◌∙◌}
use mathlib.Core.List.{List, [], ◌∷◌, ◌++◌, map}
use Prim.Native.Nat.{ℕ, suc, ◌+◌, ◌-◌, ◌*◌, ◌/◌, ◌%◌, ◌≤◌, ◌<◌}
use native.Mathlib.Nat.{div-lt_iff_lt-mul, zero-div, mul-le-mul_right, suc-mul}
use native.Mathlib.Numerals.{add-one}
use native.Mathlib.Omega.{arith}
use native.Mathlib.Decide.{dec_lt, ℕ_discrete}
use borrow.Author.Tests.{eq-eqb, ne_eqb}
use lib.ListN.{length, take, drop, length-append, length-take, length-drop}
use lib.Seq.{take-append-le, drop-append-le, drop-length}
use Rattle.lists.specs.Lists.{overlay, overlay_at}
use Rattle.lists.proofs.Parts.{more_rows, part_length_lem}
use Rattle.picture.specs.Slots.{picture_of, raw_of, picture_row}
use Rattle.picture.proofs.Pictures.{Bytes, bytes_take, bytes_drop, bytes_append}
use Rattle.picture.proofs.Slots.{Rows, picture_raw, rows_picture}
use Rattle.bitmap.specs.Header.{header_length, file_length}
use Rattle.bitmap.specs.Palettes.{palette_of, dots_of}
use Rattle.bitmap_codec.specs.Codec.{read_picture}
use Rattle.bitmap_codec.proofs.RoundTrip.{length_read, rows_read}
use Rattle.bitmap_codec.proofs.Rows.{read_row}
use Rattle.fill.specs.Fills.{fill_with, none_kept, rows_come, kept_count, fill_of, slot_of}
use Rattle.fill.specs.Facts.{part_length}
use Rattle.fill.specs.Feeding.{keeping, with_row, completed, piece_fed}
use Rattle.fill.specs.declared.Fill.{Fill}
use Rattle.fill.proofs.Pieces.{count_header, part_header, part_row, count_in, rows_in_lem, row_of, row_part, part_fed, whole-fed}
use Rattle.fill.proofs.Fills.{kept_more, kept_whole, fill_header, fill_row, slot_row}
use Rattle.fill.proofs.Fills.{slot_none, palette_same, read_same, row_before, rows_from_lem}

pub length_next : (l : List ℕ) (x : ℕ) → length (l ++ (x ∷ [])) ≡ length l + 1
length_next l x = simp length-append

-- ---- the fill

module _ (b h s : ℕ) (some : 0 < s) (near : s ≤ header_length) (slot : ℕ) (l : List ℕ) (x : ℕ) where
  abbrev next : List ℕ
  next = l ++ (x ∷ [])

  long : length next ≡ length l + 1
  long = length_next l x

  -- what the byte makes of the fill, and of what the slot holds
  abbrev Makes : (raw raw' : List ℕ) → Type 0
  Makes raw raw' = piece_fed b h s (fill_of s slot l) raw (x ∷ []) ≡ (fill_of s slot next, raw')

  -- a byte of the header, and its last: the slot stays as it is
  module _ (short : length l < header_length) (raw : List ℕ) where
    -- the fill before it, and with the byte kept
    abbrev before : Fill
    before = fill_with slot (length l) None (overlay l none_kept)

    kept_header : keeping s before (x ∷ []) ≡ fill_with slot (length next) None (overlay next none_kept)
    kept_header = rw (count_header s (length l) short, kept_more l (x ∷ []) (length l) refl (omega arith), long)

    fed_part : length l + 1 < header_length → Makes raw raw
    fed_part more =
        let less : kept_count s (length l) + 1 < part_length s (length l) =
        omega (arith, count_header s (length l) short, part_header s (length l) short) in
        rw (fill_header s slot l short, fill_header s slot next (omega (arith, long)))
        (part_fed b h s some near before (x ∷ []) less raw (omega arith) ∙ ap (λ (f : Fill). (f, raw)) kept_header)

    fed_last : length l + 1 ≡ header_length → Makes raw raw
    unfolding completed
    fed_last e =
        let f : length next ≡ header_length + (0 * s + 0) = omega (arith, long) in
        let g : header_length + 0 * s ≡ length next = omega (arith, long) in
        let i : length next ≡ header_length = long ∙ e in
        let none : drop (header_length + 0 * s) next ≡ [] = ap (λ (n : ℕ). drop n next) g ∙ drop-length next in
        let z : kept_count s (length l + 1) ≡ 0 = ap (kept_count s) (sym long ∙ f) ∙ count_in s 0 0 some in
        rw (fill_header s slot l short, fill_row s next 0 0 some f slot, none)
        (whole-fed b h s some near before raw (x ∷ []) z
        ∙ ap (λ (f : Fill). completed b h s f raw) kept_header
        ∙ rw (eq-eqb (length next) header_length i, kept_whole next i))

    fed-header : Makes raw raw
    fed-header =
        elim (ℕ_discrete (length l + 1) header_length) [
          | yes e ↦ fed_last e
          | no n ↦ fed_part (omega arith)
        ]

  -- a byte of row j, whose first is at row_start: with its last the row is written
  module _ (j k : ℕ) (part : k < s) (come : length l ≡ header_length + (j * s + k)) (raw : List ℕ) where
    abbrev row_start : ℕ
    row_start = header_length + j * s

    abbrev written : List ℕ
    written = with_row b h (palette_of next) (h - (j + 1)) (overlay (drop row_start next) none_kept) raw

    abbrev before_row : Fill
    before_row = fill_with slot (length l) (palette_of l) (overlay (drop row_start l) none_kept)

    count : kept_count s (length l) ≡ k
    count = ap (kept_count s) come ∙ count_in s j k part

    kept_row : keeping s before_row (x ∷ []) ≡ fill_with slot (length next) (palette_of next) (overlay (drop row_start next) none_kept)
    kept_row =
        let is : k ≡ length (drop row_start l) = sym (length-drop row_start l ∙ omega arith) in
        rw (count, palette_same l (x ∷ []) (omega arith), drop-append-le row_start l (x ∷ []) (omega arith), long)
        (ap (fill_with slot (length l + 1) (palette_of l)) (kept_more (drop row_start l) (x ∷ []) k is (omega arith)))

    fed_row_part : k + 1 < s → Makes raw raw
    fed_row_part more =
        let f : length next ≡ header_length + (j * s + (k + 1)) = long ∙ omega arith in
        let less : kept_count s (length l) + 1 < part_length s (length l) = omega (arith, count, part_row s (length l) (omega arith)) in
        rw (fill_row s l j k part come slot, fill_row s next j (k + 1) more f slot)
        (part_fed b h s some near before_row (x ∷ []) less raw (omega arith) ∙ ap (λ (f : Fill). (f, raw)) kept_row)

    come_next : k + 1 ≡ s → length next ≡ header_length + ((j + 1) * s + 0)
    come_next last = let f : (j + 1) * s ≡ j * s + s = rw add-one (suc-mul j s) in long ∙ omega arith

    fed_row_last : k + 1 ≡ s → Makes raw written
    unfolding completed
    fed_row_last last =
        let more : length next ≡ header_length + ((j + 1) * s + 0) = come_next last in
        let f : header_length + (j + 1) * s ≡ length next = omega (arith, more) in
        let none : drop (header_length + (j + 1) * s) next ≡ [] = ap (λ (n : ℕ). drop n next) f ∙ drop-length next in
        let z : kept_count s (length l + 1) ≡ 0 = ap (kept_count s) (sym long ∙ more) ∙ count_in s (j + 1) 0 some in
        let r : rows_come s (length next) ≡ j + 1 = ap (rows_come s) more ∙ rows_in_lem s (j + 1) 0 some in
        let n : (length next ≡ header_length → ⊥) = λ e. absurd (omega (arith, more)) in
        rw (fill_row s l j k part come slot, fill_row s next (j + 1) 0 some more slot, none)
        (whole-fed b h s some near before_row raw (x ∷ []) z
        ∙ ap (λ (f : Fill). completed b h s f raw) kept_row
        ∙ rw (ne_eqb (length next) header_length n, r))

  -- whichever byte it is, and whatever the slot holds
  pub fill_step : (raw : List ℕ) → (piece_fed b h s (fill_of s slot l) raw (x ∷ [])).0 ≡ fill_of s slot next
  fill_step raw = go (dec_lt (length l) header_length)
    where
      go : Dec (length l < header_length) → (piece_fed b h s (fill_of s slot l) raw (x ∷ [])).0 ≡ fill_of s slot next
      go (yes q) = ap (λ (r : Fill × List ℕ). r.0) (fed-header q raw)
      go (no q) =
          let j : ℕ = (length l - header_length) / s in
          let k : ℕ = (length l - header_length) % s in
          let part : k < s = row_part s (length l) some in
          let come : length l ≡ header_length + (j * s + k) = row_of s (length l) some (omega arith) in
          elim (ℕ_discrete (k + 1) s) [
            | yes e ↦ ap (λ (r : Fill × List ℕ). r.0) (fed_row_last j k part come raw e)
            | no n ↦ ap (λ (r : Fill × List ℕ). r.0) (fed_row_part j k part come raw (omega arith))
          ]

-- ---- and the slot

module _ (b h s : ℕ) (some : 0 < b) (within : b ≤ s) (stride : s ≤ 36) (slot : ℕ) (raw : List ℕ) (rows : Rows b h raw) (l : List ℕ)
    (x : ℕ) where
  abbrev more : List ℕ
  more = l ++ (x ∷ [])

  long_more : length more ≡ length l + 1
  long_more = length_next l x

  pos : 0 < s
  pos = omega arith

  -- no row is whole while the header comes
  slot-header : length l < header_length → slot_of b h s l raw ≡ slot_of b h s more raw
  slot-header short =
      let z : (m : ℕ) → m ≤ header_length → rows_come s m ≡ 0 = λ m q. let e : m - header_length ≡ 0 = omega arith in rw e (zero-div s) in
      slot_none b h s some l raw rows (z (length l) (omega arith))
      ∙ sym (slot_none b h s some more raw rows (z (length more) (omega (arith, long_more))))

  module _ (j k : ℕ) (low : j < h) (part : k < s) (come : length l ≡ header_length + (j * s + k)) where
    -- nor with a byte that is not the last of its row
    slot_part : k + 1 < s → slot_of b h s l raw ≡ slot_of b h s more raw
    slot_part less =
        let f : length more ≡ header_length + (j * s + (k + 1)) = long_more ∙ omega arith in
        rw (
          slot_row s l j k part come b h raw,
          slot_row s more j (k + 1) less f b h raw,
          read_same b h s some within l (x ∷ []) j (omega arith) (omega arith),
        )

    -- the rows that were there before are a picture
    seen : List ℕ
    seen = take ((h - j) * b) (picture_of b h raw) ++ drop ((h - j) * b) (read_picture b h s l)

    rows_seen : Bytes l → Rows b h seen
    unfolding seen
    rows_seen bytes =
        let old : Rows b h (picture_of b h raw) = rows_picture b h some raw rows in
        let read : Rows b h (read_picture b h s l) = rows_read b h s l bytes in
        let n : ℕ = (h - j) * b in
        let small : n ≤ h * b = mul-le-mul_right b (omega arith) in (
          simp (length-append, length-take, length-drop) (omega (arith, old.0, read.0)),
          bytes_append (take n (picture_of b h raw)) (drop n (read_picture b h s l)) (bytes_take n _ old.1) (bytes_drop n _ read.1),
        )

    -- the row that the byte completes
    module _ (bytes : Bytes l) (last : k + 1 ≡ s) where
      abbrev row : List ℕ
      row = drop (header_length + j * s) more

      row_dots : map (dots_of (palette_of more)) (take b (overlay row none_kept)) ≡ picture_row b (read_picture b h s more) (h - 1 - j)
      row_dots =
          let f : h - 1 - (h - 1 - j) ≡ j = omega arith in
          let room : header_length + j * s + b ≤ length more = omega (arith, long_more) in
          let is : length row ≡ s = length-drop (header_length + j * s) more ∙ omega (arith, long_more) in
          rw (take-append-le b row (drop (length row) none_kept) (omega arith))
          (sym (read_row b h s some within more (h - 1 - j) (omega arith) (rw f room) ∙ rw f))

      slot_written : with_row b h (palette_of more) (h - (j + 1)) (overlay row none_kept) (slot_of b h s l raw) ≡ slot_of b h s more raw
      unfolding seen
      slot_written =
          let m : ℕ = h - 1 - j in
          let old : List ℕ = picture_of b h raw in
          let read : List ℕ = read_picture b h s more in
          let dots : List ℕ = picture_row b read m in
          let rest : List ℕ = drop (m * b + b) (read_picture b h s l) in
          let e : h - j ≡ suc m = omega arith in
          let down : (h - j) * b ≡ m * b + b = rw e (suc-mul m b) in
          let up : h - (j + 1) ≡ m = omega arith in
          let fits : m * b + b ≤ h * b = more_rows m h b (omega arith) in
          let now : picture_of b h (slot_of b h s l raw) ≡ take (m * b + b) old ++ rest =
          ap (picture_of b h) (slot_row s l j k part come b h raw) ∙ picture_raw b h some seen (rows_seen bytes) ∙ rw down in
          let same : drop (m * b + b) read ≡ rest = rw down at (read_same b h s some within l (x ∷ []) j (omega arith) (omega arith)) in
          let from : drop (m * b) read ≡ dots ++ rest = rows_from_lem b m read ∙ ap (λ (t : List ℕ). dots ++ t) same in
          let is : length dots ≡ b = part_length_lem (m * b) b read (omega (arith, length_read b h s more)) in
          let put : overlay_at (m * b) dots (take (m * b + b) old ++ rest) ≡ take (m * b) old ++ (dots ++ rest) =
          row_before (m * b) b old dots rest is (omega (arith, (rows_picture b h some raw rows).0)) in
          rw up
          (ap (λ (new : List ℕ). raw_of b h (overlay_at (m * b) new (picture_of b h (slot_of b h s l raw)))) row_dots
          ∙ ap (λ (t : List ℕ). raw_of b h (overlay_at (m * b) dots t)) now
          ∙ ap (raw_of b h) (put ∙ ap (λ (t : List ℕ). take (m * b) old ++ t) (sym from))
          ∙ sym (slot_row s more (j + 1) 0 pos (come_next b h s pos (omega arith) slot l x j k part come raw last) b h raw ∙ rw up))

  -- whichever byte it is
  pub step : Bytes l → length l < file_length h s
      → piece_fed b h s (fill_of s slot l) (slot_of b h s l raw) (x ∷ []) ≡ (fill_of s slot more, slot_of b h s more raw)
  step bytes fits = go (dec_lt (length l) header_length)
    where
      near : s ≤ header_length
      near = omega arith

      then : {raw' : List ℕ} → piece_fed b h s (fill_of s slot l) (slot_of b h s l raw) (x ∷ []) ≡ (fill_of s slot more, raw')
          → raw' ≡ slot_of b h s more raw
          → piece_fed b h s (fill_of s slot l) (slot_of b h s l raw) (x ∷ []) ≡ (fill_of s slot more, slot_of b h s more raw)
      then e f = e ∙ ap (λ (r : List ℕ). (fill_of s slot more, r)) f

      go : Dec (length l < header_length)
          → piece_fed b h s (fill_of s slot l) (slot_of b h s l raw) (x ∷ []) ≡ (fill_of s slot more, slot_of b h s more raw)
      go (yes q) = then (fed-header b h s pos near slot l x q (slot_of b h s l raw)) (slot-header q)
      go (no q) =
          let j : ℕ = (length l - header_length) / s in
          let k : ℕ = (length l - header_length) % s in
          let low : j < h = (div-lt_iff_lt-mul pos).1 (omega arith) in
          let part : k < s = row_part s (length l) pos in
          let come : length l ≡ header_length + (j * s + k) = row_of s (length l) pos (omega arith) in
          elim (ℕ_discrete (k + 1) s) [
            | yes e ↦ then (fed_row_last b h s pos near slot l x j k part come (slot_of b h s l raw) e)
                (slot_written j k low part come bytes e)
            | no n ↦ then (fed_row_part b h s pos near slot l x j k part come (slot_of b h s l raw) (omega arith))
                (slot_part j k low part come (omega arith))
          ]
