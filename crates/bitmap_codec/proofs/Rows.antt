-- Laws of the rows of a file, as they are written and read row by row.
-- Assumes nothing.
use mathlib.Core.Path.{◌≡◌, refl, sym, ap, ◌∙◌}
use mathlib.Core.Bool.{cond}
use mathlib.Core.List.{List, ◌++◌, map}
use Prim.Native.Nat.{ℕ, ◌+◌, ◌-◌, ◌*◌, ◌/◌, ◌%◌, ◌≤◌, ◌<◌}
use native.Mathlib.Nat.{add_assoc, suc-mul}
use native.Mathlib.Numerals.{add-one}
use native.Mathlib.Omega.{arith}
use native.Mathlib.Decide.{dec_lt}
use borrow.Author.Tests.{lt-ltb, le-ltb}
use lib.Arith.{digits_lt, digits_div, digits_mod}
use lib.Dec.{ltb}
use lib.ListN.{length, get_or, take, drop, replicate, length-append, length-replicate, length-take, length-map, get_or-replicate, get_or-append}
use lib.Seq.{ext_get_or, get_or-take, get_or-drop, get_or-append-add, length-take-le, take-add, take_all}
use Rattle.lists.specs.Lists.{overlay, overlay_at}
use Rattle.lists.proofs.Lists.{get_or-tabulate, length-overlay, overlay-whole}
use Rattle.lists.proofs.Elements.{at_map}
use Rattle.lists.proofs.Parts.{more_rows, part_length_lem, part_next}
use Rattle.picture.specs.Slots.{picture_of, raw_of, picture_row}
use Rattle.picture.proofs.Pictures.{Bytes, bytes_take, bytes_drop, bytes_append}
use Rattle.picture.proofs.Slots.{Rows, picture_raw}
use Rattle.bitmap.specs.Palettes.{palette_of, dots_of}
use Rattle.bitmap.specs.Header.{header_length, file_length}
use Rattle.bitmap_codec.specs.Codec.{read_picture, file_rows}
use Rattle.bitmap_codec.proofs.RoundTrip.{length-rows, length_read, rows_read, read_byte_lem}

-- ---- written

module _ (b h s : ℕ) (within : b ≤ s) (picture : List ℕ) (size : length picture ≡ h * b) (j : ℕ) (low : j < h) where
  -- a row of the file: a row of the picture, counted from its other end, and its padding
  abbrev pub row_at : List ℕ
  row_at = picture_row b picture (h - 1 - j) ++ replicate (s - b) 0

  length_row : length (picture_row b picture (h - 1 - j)) ≡ b
  length_row = part_length_lem ((h - 1 - j) * b) b picture (omega (arith, more_rows (h - 1 - j) h b (omega arith)))

  row_at_lem : (i : ℕ) → i < s → get_or row_at i 0 ≡ cond (ltb i b) (get_or picture ((h - 1 - j) * b + i) 0) 0
  row_at_lem i l =
      let row : List ℕ = picture_row b picture (h - 1 - j) in
      elim (dec_lt i b) [
        | yes q ↦
            rw (lt-ltb i b q)
            (get_or-append row (replicate (s - b) 0) 0 i (omega (arith, length_row))
            ∙ get_or-take b (drop ((h - 1 - j) * b) picture) i 0 q
            ∙ get_or-drop ((h - 1 - j) * b) picture i 0)
        | no q ↦
            let m : b ≤ i = omega arith in
            let e : i ≡ length row + (i - b) = omega (arith, length_row) in
            rw (le-ltb i b m)
            (ap (λ (n : ℕ). get_or row_at n 0) e
            ∙ get_or-append-add row (replicate (s - b) 0) (i - b) 0
            ∙ get_or-replicate (s - b) (i - b) 0 0 (omega arith))
      ]

  file_row : take s (drop (j * s) (file_rows b h s picture)) ≡ row_at
  unfolding file_rows
  file_row =
      let rows : List ℕ = file_rows b h s picture in
      let e : length (take s (drop (j * s) rows)) ≡ s =
      part_length_lem (j * s) s rows (omega (arith, length-rows b h s picture, more_rows j h s low)) in
      ext_get_or 0 (take s (drop (j * s) rows)) row_at
      (e ∙ sym (rw (length-append, length_row, length-replicate) (omega arith)))
      (λ i l.
      let q : i < s = omega (arith, e) in
      get_or-take s (drop (j * s) rows) i 0 q
      ∙ get_or-drop (j * s) rows i 0
      ∙ get_or-tabulate (h * s) (λ k. cond (ltb (k % s) b) (get_or picture ((h - 1 - k / s) * b + k % s) 0) 0) (j * s + i) 0 (digits_lt low q)
      ∙ rw (digits_div j q, digits_mod j q)
      (sym (row_at_lem i q)))

  -- a turn of the loop: one row more, right after those that are there already
  pub row_next : (out : List ℕ) {d e : List ℕ} → file_length h s ≤ length out
      → d ≡ overlay_at header_length (take (j * s) (file_rows b h s picture)) out → e ≡ overlay_at (header_length + j * s) row_at d
      → e ≡ overlay_at header_length (take ((j + 1) * s) (file_rows b h s picture)) out
  row_next out room p q =
      let rows : List ℕ = file_rows b h s picture in
      let more : j * s + s ≤ h * s = more_rows j h s low in
      let l : length (take (j * s) rows) ≡ j * s = length-take-le (j * s) rows (omega (arith, length-rows b h s picture)) in
      let e : (j + 1) * s ≡ j * s + s = rw add-one (suc-mul j s) in
      rw (e, take-add (j * s) s rows, file_row)
      (part_next header_length out (take (j * s) rows) row_at (header_length + j * s) p q (omega arith) (omega arith))

-- ---- read

-- a picture of which the first y rows are read already
abbrev pub part_read : (b h s : ℕ) (file old : List ℕ) (y : ℕ) → List ℕ
part_read b h s file old y = overlay (take (y * b) (read_picture b h s file)) old

-- with all rows read it is the picture of the file
pub read_all : (b h s : ℕ) (file old : List ℕ) → length old ≡ h * b → part_read b h s file old h ≡ read_picture b h s file
read_all b h s file old size =
    let picture : List ℕ = read_picture b h s file in
    let l : length picture ≡ h * b = length_read b h s file in
    rw (take_all (h * b) picture (omega arith)) (overlay-whole picture old (omega arith))

-- a row of the picture: the dots of a row of the file, counted from its other end
abbrev row_in : (b h s : ℕ) (file : List ℕ) (y : ℕ) → List ℕ
row_in b h s file y = map (dots_of (palette_of file)) (take b (drop (header_length + (h - 1 - y) * s) file))

pub read_row : (b h s : ℕ) → 0 < b → b ≤ s → (file : List ℕ) (y : ℕ) → y < h → header_length + (h - 1 - y) * s + b ≤ length file
    → picture_row b (read_picture b h s file) y ≡ row_in b h s file y
read_row b h s some within file y low room =
    let picture : List ℕ = read_picture b h s file in
    let at : ℕ = header_length + (h - 1 - y) * s in
    let e : length (picture_row b picture y) ≡ b =
    part_length_lem (y * b) b picture (omega (arith, length_read b h s file, more_rows y h b low)) in
    let bits : List ℕ = take b (drop at file) in
    let g : length bits ≡ b = part_length_lem at b file room in
    let f : length (row_in b h s file y) ≡ b = length-map bits (dots_of (palette_of file)) ∙ g in
    ext_get_or 0 (picture_row b picture y) (row_in b h s file y) (e ∙ sym f)
    (λ i l.
    let q : i < b = omega (arith, e) in
    get_or-take b (drop (y * b) picture) i 0 q
    ∙ get_or-drop (y * b) picture i 0
    ∙ read_byte_lem b h s some within file y i low q
    ∙ ap (dots_of (palette_of file)) (sym (get_or-take b (drop at file) i 0 q ∙ get_or-drop at file i 0 ∙ rw add_assoc))
    ∙ at_map (dots_of (palette_of file)) 0 bits i 0 (omega arith))

module _ (b h s : ℕ) (some : 0 < b) (within : b ≤ s) (file : List ℕ) (bytes : Bytes file) (old : List ℕ) (rows : Rows b h old) where
  rows_part : (y : ℕ) → Rows b h (part_read b h s file old y)
  rows_part y =
      let picture : List ℕ = read_picture b h s file in
      let front : List ℕ = take (y * b) picture in
      let r : Rows b h picture = rows_read b h s file bytes in (
        length-overlay front old (omega (arith, length-take (y * b) picture, r.0, rows.0)) ∙ rows.0,
        bytes_append front (drop (length front) old) (bytes_take (y * b) picture r.1) (bytes_drop (length front) old rows.1),
      )

  module _ (room : file_length h s ≤ length file) (y : ℕ) (low : y < h) where
    -- a turn of the loop: one row more, right after those that are there already
    pub read_next_lem : {d e : List ℕ} → d ≡ raw_of b h (part_read b h s file old y)
        → e ≡ raw_of b h (overlay_at (y * b) (row_in b h s file y) (picture_of b h d)) → e ≡ raw_of b h (part_read b h s file old (y + 1))
    read_next_lem {d} {e} p q =
        let picture : List ℕ = read_picture b h s file in
        let front : List ℕ = take (y * b) picture in
        let more : y * b + b ≤ h * b = more_rows y h b low in
        let l : length front ≡ y * b = length-take-le (y * b) picture (omega (arith, length_read b h s file)) in
        let f : (y + 1) * b ≡ y * b + b = rw add-one (suc-mul y b) in
        let fits : header_length + (h - 1 - y) * s + b ≤ length file = omega (arith, more_rows (h - 1 - y) h s (omega arith)) in
        let g : picture_of b h d ≡ overlay front old =
        ap (picture_of b h) p ∙ picture_raw b h some (overlay front old) (rows_part y) in
        q
        ∙ ap (raw_of b h)
        (rw (f, take-add (y * b) b picture, read_row b h s some within file y low fits)
        (part_next 0 old front (row_in b h s file y) (y * b) g refl (omega arith) (omega (arith, rows.0))))
