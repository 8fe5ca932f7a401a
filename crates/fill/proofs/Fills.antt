-- Laws of the fill, and of the slot, for which some bytes of a file have come.
-- Assumes nothing.
use Rattle.std.proofs.Common.{None}
use mathlib.Core.Path.{◌≡◌, refl, sym, ap, ◌∙◌}
use mathlib.Core.Bool.{true, false}
use mathlib.Core.List.{List, [], ◌++◌, append-nil}
use Prim.Native.Nat.{ℕ, zero, suc, ◌+◌, ◌-◌, ◌*◌, ◌/◌, ◌%◌, ◌≤◌, ◌<◌}
use native.Mathlib.Nat.{mod-lt, div-lt_iff_lt-mul, le-div_iff_mul-le}
use native.Mathlib.Omega.{arith}
use borrow.Author.Tests.{lt-ltb, le-ltb}
use lib.Dec.{ltb}
use lib.ListN.{length, get_or, take, drop, length-drop, take-append-drop, get_or-append}
use lib.Seq.{take_all, take-append-le, drop_at, drop-drop, take-take, length-take-le, ext_get_or, get_or-drop, drop-length}
use Rattle.lists.specs.Lists.{overlay, overlay_at}
use Rattle.lists.proofs.Lists.{get_or-tabulate, overlay_at_next, overlay-whole}
use Rattle.lists.proofs.Parts.{more_rows}
use Rattle.picture.specs.Slots.{picture_of, raw_of, picture_row}
use Rattle.picture.proofs.Slots.{Rows, raw_picture, rows_picture}
use Rattle.bitmap.specs.Numbers.{number_at}
use Rattle.bitmap.specs.Header.{header_length}
use Rattle.bitmap.specs.Palettes.{palette_of, dots_of}
use Rattle.bitmap_codec.specs.Codec.{read_picture}
use Rattle.bitmap_codec.proofs.RoundTrip.{length_read}
use Rattle.fill.specs.Fills.{fill_with, none_kept, rows_come, kept_count, fill_of, slot_of}
use Rattle.fill.proofs.Pieces.{count_in, rows_in_lem}

-- ---- the bytes that are kept

-- more bytes after those that are kept
pub kept_more : (bytes more : List ℕ) (at : ℕ) → at ≡ length bytes → at ≤ header_length
    → overlay_at at more (overlay bytes none_kept) ≡ overlay (bytes ++ more) none_kept
kept_more bytes more at e h = overlay_at_next 0 none_kept bytes more at (omega arith) h

-- a header that is kept whole
pub kept_whole : (bytes : List ℕ) → length bytes ≡ header_length → overlay bytes none_kept ≡ bytes
kept_whole bytes e = overlay-whole bytes none_kept (omega arith)

-- ---- fills

pub fill_came : (s slot : ℕ) (bytes : List ℕ) → (fill_of s slot bytes).came ≡ length bytes
unfolding fill_of
fill_came s slot bytes = refl

-- while the header comes
pub fill_header : (s slot : ℕ) (bytes : List ℕ) → length bytes < header_length
    → fill_of s slot bytes ≡ fill_with slot (length bytes) None (overlay bytes none_kept)
unfolding fill_of
fill_header s slot bytes h =
    let t : ltb (length bytes) header_length ≡ true = lt-ltb (length bytes) header_length h in
    let e : length bytes - length bytes ≡ 0 = omega arith in
    rw (t, e)

-- with j rows and k bytes of the next one
module _ (s : ℕ) (bytes : List ℕ) (j k : ℕ) (part : k < s) (long : length bytes ≡ header_length + (j * s + k)) where
  pub rows_come_lem : rows_come s (length bytes) ≡ j
  rows_come_lem = ap (rows_come s) long ∙ rows_in_lem s j k part

  kept_count_lem : kept_count s (length bytes) ≡ k
  kept_count_lem = ap (kept_count s) long ∙ count_in s j k part

  pub fill_row : (slot : ℕ)
      → fill_of s slot bytes ≡ fill_with slot (length bytes) (palette_of bytes) (overlay (drop (header_length + j * s) bytes) none_kept)
  unfolding fill_of
  fill_row slot =
      let t : ltb (length bytes) header_length ≡ false = le-ltb (length bytes) header_length (omega arith) in
      let e : length bytes - k ≡ header_length + j * s = omega arith in
      rw (kept_count_lem, t, e)

  pub slot_row : (b h : ℕ) (raw : List ℕ) → slot_of b h s bytes raw
      ≡ raw_of b h (take ((h - j) * b) (picture_of b h raw) ++ drop ((h - j) * b) (read_picture b h s bytes))
  unfolding slot_of
  slot_row b h raw = rw rows_come_lem

-- ---- the slot

-- before a row has come whole it is as it was
pub slot_none : (b h s : ℕ) → 0 < b → (bytes raw : List ℕ) → Rows b h raw → rows_come s (length bytes) ≡ 0 → slot_of b h s bytes raw ≡ raw
unfolding slot_of
slot_none b h s some bytes raw rows e =
    let p : Rows b h (picture_of b h raw) = rows_picture b h some raw rows in
    let all : take (h * b) (picture_of b h raw) ≡ picture_of b h raw = take_all (h * b) (picture_of b h raw) (omega (arith, p.0)) in
    let none : drop (h * b) (read_picture b h s bytes) ≡ [] =
    ap (λ (n : ℕ). drop n (read_picture b h s bytes)) (sym (length_read b h s bytes)) ∙ drop-length (read_picture b h s bytes) in
    let f : h - 0 ≡ h = omega arith in
    rw (e, f, all, none, append-nil) (raw_picture b h some raw rows)

-- with all rows it is the picture of the file
pub slot_all : (b h s : ℕ) (bytes raw : List ℕ) → rows_come s (length bytes) ≡ h
    → slot_of b h s bytes raw ≡ raw_of b h (read_picture b h s bytes)
unfolding slot_of
slot_all b h s bytes raw e = let f : h - h ≡ 0 = omega arith in let g : 0 * b ≡ 0 = omega arith in rw (e, f, g)

-- ---- what more bytes do not change

number_same : (size : ℕ) (l m : List ℕ) (at : ℕ) → at + size ≤ length l → number_at size (l ++ m) at ≡ number_at size l at
number_same zero l m at h = refl
number_same (suc size) l m at h =
    rw (get_or-append l m 0 at (omega arith), number_same size l m (suc at) (omega arith))

pub palette_same : (l m : List ℕ) → header_length ≤ length l → palette_of (l ++ m) ≡ palette_of l
palette_same l m h = rw (number_same 3 l m 54 (omega arith), number_same 3 l m 58 (omega arith))

module _ (b h s : ℕ) (some : 0 < b) (within : b ≤ s) (l m : List ℕ) (j : ℕ) (low : j ≤ h) (long : header_length + j * s ≤ length l) where
  -- where a byte of the rows that came stands
  place : (k : ℕ) → (h - j) * b ≤ k → k < h * b → header_length + ((h - 1 - k / b) * s + k % b) < length l
  place k lo hi =
      let r : k % b < b = mod-lt k some in
      let q : k / b < h = (div-lt_iff_lt-mul some).1 hi in
      let top : h - j ≤ k / b = (le-div_iff_mul-le some).1 lo in
      omega (arith, more_rows (h - 1 - k / b) j s (omega arith))

  -- the byte that is read there
  abbrev read_byte : (file : List ℕ) (k : ℕ) → ℕ
  read_byte file k = dots_of (palette_of file) (get_or file (header_length + ((h - 1 - k / b) * s + k % b)) 0)

  pub read_same : drop ((h - j) * b) (read_picture b h s (l ++ m)) ≡ drop ((h - j) * b) (read_picture b h s l)
  unfolding read_picture
  read_same =
      let n : ℕ = (h - j) * b in
      let more : List ℕ = read_picture b h s (l ++ m) in
      let less : List ℕ = read_picture b h s l in
      let e : length (drop n more) ≡ h * b - n = length-drop n more ∙ ap (λ (k : ℕ). k - n) (length_read b h s (l ++ m)) in
      let f : length (drop n less) ≡ h * b - n = length-drop n less ∙ ap (λ (k : ℕ). k - n) (length_read b h s l) in
      ext_get_or 0 (drop n more) (drop n less) (e ∙ sym f)
      (λ i q.
      let lk : n + i < h * b = omega (arith, e) in
      let within-l : header_length + ((h - 1 - (n + i) / b) * s + (n + i) % b) < length l = place (n + i) (omega arith) lk in
      get_or-drop n more i 0
      ∙ get_or-tabulate (h * b) (read_byte (l ++ m)) (n + i) 0 lk
      ∙ rw (palette_same l m (omega arith), get_or-append l m 0 (header_length + ((h - 1 - (n + i) / b) * s + (n + i) % b)) within-l)
      (sym (get_or-drop n less i 0 ∙ get_or-tabulate (h * b) (read_byte l) (n + i) 0 lk)))

-- ---- a row more

-- a row laid right before those that are there already
pub row_before : (a c : ℕ) (old row rest : List ℕ) → length row ≡ c → a + c ≤ length old
    → overlay_at a row (take (a + c) old ++ rest) ≡ take a old ++ (row ++ rest)
row_before a c old row rest e h =
    let l : length (take (a + c) old) ≡ a + c = length-take-le (a + c) old h in
    rw (
      e,
      take-append-le a (take (a + c) old) rest (omega arith),
      take-take a (a + c) old (omega arith),
      drop-drop c a (take (a + c) old ++ rest),
      drop_at (take (a + c) old) rest (a + c) l,
    )

-- the rows of a picture from row m on
pub rows_from_lem : (b m : ℕ) (picture : List ℕ) → drop (m * b) picture ≡ picture_row b picture m ++ drop (m * b + b) picture
rows_from_lem b m picture = rw (← drop-drop b (m * b) picture) (sym (take-append-drop b (drop (m * b) picture)))
