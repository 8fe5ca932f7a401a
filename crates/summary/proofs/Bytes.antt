-- Laws of black dots by the bytes that hold them. Only `row_bytes` sees how a slot keeps its rows.
-- Assumes nothing.
use mathlib.Core.Path.{◌≡◌, refl, sym, ap, ◌∙◌}
use mathlib.Core.Bool.{Bool, true, false, cond, ◌&&◌}
use mathlib.Core.List.{List, [], ◌∷◌}
use Prim.Native.Nat.{ℕ, zero, suc, ◌+◌, ◌*◌, ◌/◌, ◌%◌, ◌≤◌, ◌<◌}
use native.Mathlib.Nat.{mul_comm, add-mul, zero-add}
use native.Mathlib.Numerals.{add-one}
use native.Mathlib.Decide.{ℕ_discrete}
use native.Mathlib.Omega.{arith}
use mir.Syntax.{w8}
use Rattle.std.specs.Int.{count_zeros}
use lib.Bits.{bit_and, and_comm, and_mask, and_le_l}
use Rattle.std.proofs.Math.Bool.{and_assoc}
use mathlib.Core.Bool.{and-true}
use lib.Count.{ones, ones_in}
use lib.Dec.{eqb, ltb}
use Rattle.std.proofs.Common.{get_or-drop}
use lib.ListN.{get_or, length, take, drop, length-drop}
use Rattle.std.specs.List.{sum_by, fold}
use Rattle.std.proofs.lemmas.List.Sums.{sum_by-cons, sum_by-le, sum_by_more}
use borrow.Author.Tests.{ne_eqb, eqb-true, ltb-true}
use Rattle.lists.proofs.Rules.{below_all}
use Rattle.panel.specs.Dots.{bit, dot}
use Rattle.counting.specs.Below.{sum_below}
use Rattle.counting.proofs.Below.{sum_cong, sum-most, sum_blocks}
use Rattle.picture.specs.Slots.{picture_of}
use Rattle.summary.specs.Summaries.{black_in_row}
use Rattle.summary.specs.Facts.{black_in_byte, black_from}

-- ---- bytes

-- a dot counts 0 or 1
pub one_le : (t : Bool) → cond t 1 0 ≤ 1
one_le true = omega arith
one_le false = omega arith

byte_le : (byte : ℕ) → black_in_byte byte ≤ 8
unfolding black_in_byte
byte_le byte = sum-most 8 1 (λ j. cond (eqb (bit byte j) 0) 1 0) (λ j. one_le (eqb (bit byte j) 0))

-- the bits that are not set, computed for each byte
pub byte_zeros : (byte : ℕ) → byte < 256 → count_zeros w8 byte ≡ black_in_byte byte
unfolding black_in_byte ones ones_in
byte_zeros byte h =
    eqb-true (count_zeros w8 byte) (black_in_byte byte) (below_all 256 (λ n. eqb (count_zeros w8 n) (black_in_byte n)) refl byte h)

-- a byte has no black dot where it is FF, and else has one
byte_white : black_in_byte 0xFF ≡ 0
unfolding black_in_byte
byte_white = refl

byte_some : (byte : ℕ) → byte < 256 → (byte ≡ 0xFF → ⊥) → 0 < black_in_byte byte
unfolding black_in_byte
byte_some byte h n = ltb-true 0 (black_in_byte byte) (below_all 255 (λ k. ltb 0 (black_in_byte k)) refl byte (omega arith))

-- a count stays 0 where what is added is 0
none_added : (n m : ℕ) → eqb (n + m) 0 ≡ (eqb n 0 && eqb m 0)
none_added zero m = rw zero-add
none_added (suc n) m = rw (ne_eqb (suc n) 0 (λ e. absurd (omega arith))) (ne_eqb (suc n + m) 0 (λ e. absurd (omega arith)))

byte_none : (byte : ℕ) → byte < 256 → eqb byte 0xFF ≡ eqb (black_in_byte byte) 0
byte_none byte h =
    elim (ℕ_discrete byte 0xFF) [
      | yes e ↦ rw (e, byte_white)
      | no n ↦ ne_eqb byte 0xFF n ∙ sym (ne_eqb (black_in_byte byte) 0 (λ e. absurd (omega (arith, byte_some byte h n))))
    ]

-- ---- bytes of a list

pub bytes_le : (bytes : List ℕ) → sum_by black_in_byte bytes ≤ length bytes * 8
bytes_le bytes = sum_by-le black_in_byte 8 bytes (λ k d _. byte_le (get_or bytes k d))

-- the bits that are set in both of two bytes are all set where they are in each
both_white : (a c : ℕ) → a < 256 → c < 256 → eqb (bit_and a c) 0xFF ≡ (eqb a 0xFF && eqb c 0xFF)
both_white a c ha hc =
    elim (ℕ_discrete a 0xFF) [
      | yes e ↦
          let m : bit_and 0xFF c ≡ c = and_comm 0xFF c ∙ and_mask c 8 ∙ (let f : c % 256 ≡ c = omega arith in f) in
          rw (e, m)
      | no n ↦ rw (ne_eqb a 0xFF n, ne_eqb (bit_and a c) 0xFF (λ e. absurd (omega (arith, and_le_l a c))))
    ]

-- of those that are set in all of the bytes and in another one: none of the bytes has a black dot
pub all_white : (bytes : List ℕ) (a : ℕ) → a < 256 → ((k : ℕ) → get_or bytes k 0 < 256)
    → eqb (fold bit_and a bytes) 0xFF ≡ (eqb a 0xFF && eqb (sum_by black_in_byte bytes) 0)
all_white [] a h fits = rw and-true
all_white (byte ∷ bytes) a h fits =
    let less : bit_and a byte < 256 = omega (arith, and_le_l a byte) in
    all_white bytes (bit_and a byte) less (λ k. fits (suc k))
    ∙ rw (both_white a byte h (fits 0), byte_none byte (fits 0), sum_by-cons black_in_byte byte bytes)
    (and_assoc (eqb a 0xFF) (eqb (black_in_byte byte) 0) (eqb (sum_by black_in_byte bytes) 0)
    ∙ ap (λ rest. eqb a 0xFF && rest) (sym (none_added (black_in_byte byte) (sum_by black_in_byte bytes))))

-- one byte more
pub black_more : (bytes : List ℕ) (i black more : ℕ) → i < length bytes → black ≡ sum_by black_in_byte (take i bytes)
    → more ≡ black_in_byte (get_or bytes i 0) → black + more ≡ sum_by black_in_byte (take (i + 1) bytes)
black_more bytes i black more h e q = rw (e, q) (sym (sum_by_more black_in_byte bytes i 0 h))

-- of bytes that have no black dot
pub white_more : (bytes : List ℕ) (i : ℕ) → i < length bytes → sum_by black_in_byte (take i bytes) ≡ 0 → get_or bytes i 0 ≡ 0xFF
    → sum_by black_in_byte (take (i + 1) bytes) ≡ 0
white_more bytes i h e q = sym (black_more bytes i 0 0 h (sym e) (rw q (sym byte_white)))

-- the n bytes from index `at` on
pub part_black : (bytes : List ℕ) (at n : ℕ) → at + n ≤ length bytes → sum_by black_in_byte (take n (drop at bytes)) ≡ black_from bytes at n
part_black bytes at zero h = refl
part_black bytes at (suc n) h =
    rw add-one at (sum_by_more black_in_byte (drop at bytes) n 0 (omega (arith, length-drop at bytes)))
    ∙ rw (part_black bytes at n (omega arith), get_or-drop at bytes n 0)

-- ---- how a slot keeps its rows

-- the black dots of row y are those of its bytes
pub row_bytes : (b h : ℕ) (raw : List ℕ) (y : ℕ) → y < h → black_in_row b (picture_of b h raw) y ≡ black_from raw (y * b) b
unfolding picture_of black_in_row black_in_byte dot
row_bytes b h raw y l =
    let black : ℕ → ℕ = λ x. cond (eqb (bit (get_or raw (y * b + x / 8) 0) (x % 8)) 0) 1 0 in
    rw (mul_comm 8 b)
    (sum_blocks b 8 black
    ∙ sum_cong b (λ i. sum_below 8 (λ j. black (i * 8 + j))) (λ i. black_in_byte (get_or raw (y * b + i) 0))
    (λ i hi. sum_cong 8 (λ j. black (i * 8 + j)) (λ j. cond (eqb (bit (get_or raw (y * b + i) 0) j) 0) 1 0)
    (λ j hj.
    let e : (i * 8 + j) / 8 ≡ i = omega arith in
    let f : (i * 8 + j) % 8 ≡ j = omega arith in
    rw (e, f))))

-- the black dots of n rows from row y on
pub rows_bytes : (b h : ℕ) (raw : List ℕ) (y n : ℕ) → y + n ≤ h
    → black_from raw (y * b) (n * b) ≡ sum_below n (λ i. black_in_row b (picture_of b h raw) (y + i))
rows_bytes b h raw y n fits =
    sum_blocks n b (λ k. black_in_byte (get_or raw (y * b + k) 0))
    ∙ sum_cong n (λ i. sum_below b (λ j. black_in_byte (get_or raw (y * b + (i * b + j)) 0))) (λ i. black_in_row b (picture_of b h raw) (y + i))
    (λ i l.
    sum_cong b (λ j. black_in_byte (get_or raw (y * b + (i * b + j)) 0)) (λ j. black_in_byte (get_or raw ((y + i) * b + j) 0))
    (λ j _. ap (λ (k : ℕ). black_in_byte (get_or raw k 0)) (omega (arith, add-mul y i b)))
    ∙ sym (row_bytes b h raw (y + i) (omega arith)))
