-- Document 01, "Store and bitmaps": a file read and written again becomes the normal form, and a second time changes nothing.
-- What is written reads back as the picture, and the check accepts it. All of it holds for any row bytes b, rows h and stride s,
-- and for a palette in either order (request 2026-01).
-- Assumes nothing.
use Rattle.std.proofs.Common.{Some}
use mathlib.Core.Path.{◌≡◌, refl, sym, ap, ◌∙◌}
use mathlib.Core.Bool.{true, cond}
use mathlib.Core.List.{List, ◌++◌}
use Prim.Native.Nat.{ℕ, ◌+◌, ◌-◌, ◌*◌, ◌/◌, ◌%◌, ◌≤◌, ◌<◌}
use native.Mathlib.Nat.{mod-lt, div-lt_iff_lt-mul, div-add-mod'}
use native.Mathlib.Omega.{arith}
use native.Mathlib.Decide.{dec_lt}
use borrow.Author.Tests.{lt-ltb, le-ltb, eq-eqb}
use lib.Arith.{digits_lt, digits_div, digits_mod}
use lib.Dec.{ltb}
use lib.ListN.{length, get_or, drop, length-append}
use lib.Seq.{get_or-append-add}
use Rattle.lists.proofs.Lists.{length-tabulate, get_or-tabulate, tabulate_cong, is-tabulate}
use Rattle.lists.proofs.Rules.{none, keep, all_kept}
use Rattle.panel.specs.Dots.{bit, dot}
use Rattle.panel.specs.Panels.{rows_of, row_bytes_of, stride_of}
use Rattle.panel.proofs.Panels.{size_of}
use Rattle.picture.proofs.Pictures.{Bytes, bytes_tabulate, bit-turned}
use Rattle.picture.proofs.Slots.{Rows}
use Rattle.bitmap.specs.declared.Palette.TheVariants.{BlackFirst, WhiteFirst}
use Rattle.bitmap.specs.Palettes.{palette_from, palette_of, dots_of}
use Rattle.bitmap.specs.Header.{header_length, file_length}
use Rattle.bitmap_codec.specs.Codec.{header}
use Rattle.bitmap.specs.Bitmap.{bitmap_good, check_bitmap}
use Rattle.bitmap_codec.specs.Codec.{read_picture, file_rows, written_file, normal_form}
use Rattle.bitmap.proofs.Numbers.{number-back}
use Rattle.bitmap.proofs.Palettes.{dots_lt}
use Rattle.bitmap.proofs.Check.{rows-small, check_file}
use Rattle.bitmap.proofs.Fields.{field_at, held}

-- counted from the other end and back
flip : (h y : ℕ) → y < h → h - 1 - (h - 1 - y) ≡ y
flip h y l = omega arith

module _ (b h s : ℕ) where
  pub length-header : length (header b h s) ≡ header_length
  unfolding header
  length-header = refl

  pub length-rows : (picture : List ℕ) → length (file_rows b h s picture) ≡ h * s
  unfolding file_rows
  length-rows picture = length-tabulate (h * s) _

  pub length_file : (picture : List ℕ) → length (written_file b h s picture) ≡ file_length h s
  unfolding written_file
  length_file picture = rw (length-append, length-header, length-rows picture)

  pub length_read : (file : List ℕ) → length (read_picture b h s file) ≡ h * b
  unfolding read_picture
  length_read file = length-tabulate (h * b) _

  pub rows_read : (file : List ℕ) → Bytes file → Rows b h (read_picture b h s file)
  unfolding read_picture
  rows_read file bytes = (
    length_read file,
    bytes_tabulate (h * b) (λ k. dots_of (palette_of file) (get_or file (header_length + ((h - 1 - k / b) * s + k % b)) 0))
        (λ k. dots_lt (palette_of file) _ (bytes (header_length + ((h - 1 - k / b) * s + k % b)))),
  )

  -- a written file has black first
  pub palette_written : (picture : List ℕ) → palette_of (written_file b h s picture) ≡ Some BlackFirst
  unfolding written_file header palette_from
  palette_written picture = refl

  -- what stands after the header of a written file
  get_d_file : (picture : List ℕ) (n : ℕ) → get_or (written_file b h s picture) (header_length + n) 0 ≡ get_or (file_rows b h s picture) n 0
  unfolding written_file header
  get_d_file picture n = get_or-append-add (header b h s) (file_rows b h s picture) n 0

module _ (b h s : ℕ) (some : 0 < b) (within : b ≤ s) where
  -- byte r of the file's row q, and of the picture's row y
  row_byte : (picture : List ℕ) (q r : ℕ) → q < h → r < b
      → get_or (file_rows b h s picture) (q * s + r) 0 ≡ get_or picture ((h - 1 - q) * b + r) 0
  unfolding file_rows
  row_byte picture q r hq hr =
      let hs : r < s = omega arith in
      get_or-tabulate (h * s) (λ k. cond (ltb (k % s) b) (get_or picture ((h - 1 - k / s) * b + k % s) 0) 0) (q * s + r) 0 (digits_lt hq hs)
      ∙ rw (digits_div q hs, digits_mod q hs, lt-ltb r b hr)

  pub read_byte_lem : (file : List ℕ) (y r : ℕ) → y < h → r < b
      → get_or (read_picture b h s file) (y * b + r) 0 ≡ dots_of (palette_of file) (get_or file (header_length + ((h - 1 - y) * s + r)) 0)
  unfolding read_picture
  read_byte_lem file y r hy hr =
      get_or-tabulate (h * b) (λ k. dots_of (palette_of file) (get_or file (header_length + ((h - 1 - k / b) * s + k % b)) 0)) (y * b + r) 0
      (digits_lt hy hr)
      ∙ rw (digits_div y hr, digits_mod y hr)

  -- dot x of row y, by the bit of the file that is its index into the palette
  module _ (file : List ℕ) (x y : ℕ) (hx : x < 8 * b) (hy : y < h) where
    abbrev pub index : ℕ
    index = bit (get_or file (header_length + ((h - 1 - y) * s + x / 8)) 0) (x % 8)

    pub dot_black_first : palette_of file ≡ Some BlackFirst → dot b (read_picture b h s file) x y ≡ index
    unfolding dot
    dot_black_first e = rw (read_byte_lem file y (x / 8) hy (omega arith), e)

    pub dot_white_first : Bytes file → palette_of file ≡ Some WhiteFirst → dot b (read_picture b h s file) x y ≡ 1 - index
    unfolding dot
    dot_white_first bytes e =
        rw (read_byte_lem file y (x / 8) hy (omega arith), e)
        (bit-turned (get_or file (header_length + ((h - 1 - y) * s + x / 8)) 0) (x % 8) (bytes _) (omega arith))

  -- what is written reads back as the picture
  pub read_written : (picture : List ℕ) → length picture ≡ h * b → read_picture b h s (written_file b h s picture) ≡ picture
  unfolding read_picture
  read_written picture e =
      rw (palette_written b h s picture)
      (sym (is-tabulate picture (h * b) (λ k. get_or (written_file b h s picture) (header_length + ((h - 1 - k / b) * s + k % b)) 0) e
      (λ k lk.
      let hq : k / b < h = (div-lt_iff_lt-mul some).1 lk in
      let hr : k % b < b = mod-lt k some in
      sym (get_d_file b h s picture ((h - 1 - k / b) * s + k % b)
      ∙ row_byte picture (h - 1 - k / b) (k % b) (omega arith) hr
      ∙ ap (λ (n : ℕ). get_or picture (n * b + k % b) 0) (flip h (k / b) hq)
      ∙ ap (λ (n : ℕ). get_or picture n 0) (div-add-mod' k b)))))

  -- what was read is written in normal form
  pub write_read : (file : List ℕ) → written_file b h s (read_picture b h s file) ≡ normal_form b h s file
  unfolding written_file file_rows normal_form
  write_read file =
      ap (λ (rows : List ℕ). header b h s ++ rows)
      (tabulate_cong (h * s) (λ k. cond (ltb (k % s) b) (get_or (read_picture b h s file) ((h - 1 - k / s) * b + k % s) 0) 0)
      (λ k. cond (ltb (k % s) b) (dots_of (palette_of file) (get_or file (header_length + k) 0)) 0)
      (λ k lk. by_place k lk (dec_lt (k % s) b)))
    where
      by_place : (k : ℕ) → k < h * s → Dec (k % s < b)
          → cond (ltb (k % s) b) (get_or (read_picture b h s file) ((h - 1 - k / s) * b + k % s) 0) 0
          ≡ cond (ltb (k % s) b) (dots_of (palette_of file) (get_or file (header_length + k) 0)) 0
      by_place k lk (yes l) =
          let ps : 0 < s = omega arith in
          let hq : k / s < h = (div-lt_iff_lt-mul ps).1 lk in
          ap (λ (n : ℕ). cond (ltb (k % s) b) n 0)
          (read_byte_lem file (h - 1 - k / s) (k % s) (omega arith) l
          ∙ ap (λ (n : ℕ). dots_of (palette_of file) (get_or file (header_length + (n * s + k % s)) 0)) (flip h (k / s) hq)
          ∙ ap (λ (n : ℕ). dots_of (palette_of file) (get_or file (header_length + n) 0)) (div-add-mod' k s))
      by_place k lk (no l) = let m : b ≤ k % s = omega arith in rw (le-ltb (k % s) b m)

  -- and a second time changes nothing
  pub write_twice : (file : List ℕ)
      → written_file b h s (read_picture b h s (written_file b h s (read_picture b h s file))) ≡ written_file b h s (read_picture b h s file)
  write_twice file = ap (written_file b h s) (read_written (read_picture b h s file) (length_read b h s file))

  -- the normal form holds the same picture
  pub read_normal : (file : List ℕ) → read_picture b h s (normal_form b h s file) ≡ read_picture b h s file
  read_normal file = rw (← write_read file) (read_written (read_picture b h s file) (length_read b h s file))

-- the check accepts every file that is written: each field is read as it was written, since its number fits four bytes
pub good_written : (b h s : ℕ) → b ≤ 33 → h ≤ 176 → s ≤ 36 → (picture : List ℕ) → bitmap_good b h s (written_file b h s picture) ≡ true
unfolding bitmap_good written_file header palette_from
good_written b h s narrow low near picture =
    let small : h * s ≤ 6336 = rows-small h s low near in
    let file = written_file b h s picture in
    all_kept
    (keep (eq-eqb (length file) (file_length h s) (length_file b h s picture))
    (keep refl
    (keep refl
    (keep (held file (field_at b h s 1) (number-back 4 (file_length h s) (drop 6 file) (omega arith)))
    (keep refl
    (keep refl
    (keep refl
    (keep (held file (field_at b h s 5) (number-back 4 (8 * b) (drop 22 file) (omega arith)))
    (keep (held file (field_at b h s 6) (number-back 4 h (drop 26 file) (omega arith)))
    (keep refl
    (keep refl
    (keep refl
    (keep (held file (field_at b h s 10) (number-back 4 (h * s) (drop 38 file) (omega arith)))
    (keep refl (keep refl (keep refl (keep refl (keep refl (keep refl none)))))))))))))))))))

pub good-panel : (panel : ℕ) → panel < 3 → (picture : List ℕ)
    → let b = row_bytes_of panel in let h = rows_of panel in let s = stride_of panel in bitmap_good b h s (written_file b h s picture) ≡ true
good-panel panel l =
    let size = size_of panel l in
    good_written (row_bytes_of panel) (rows_of panel) (stride_of panel) size.narrow size.low size.small

pub check_written : (panel : ℕ) → panel < 3 → (picture : List ℕ)
    → check_bitmap panel (written_file (row_bytes_of panel) (rows_of panel) (stride_of panel) picture) ≡ 0
check_written panel l picture =
    check_file panel _ (row_bytes_of panel) (rows_of panel) (stride_of panel) true (lt-ltb panel 3 l) refl refl refl
    (sym (good-panel panel l picture))
