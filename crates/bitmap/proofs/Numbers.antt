-- Laws of numbers of a file, low byte first.
-- Assumes nothing.
use mathlib.Core.Path.{◌≡◌, refl, sym, ap, ◌∙◌}
use mathlib.Core.List.{List, [], ◌∷◌, ◌++◌}
use Prim.Native.Nat.{ℕ, zero, suc, ◌+◌, ◌*◌, ◌/◌, ◌%◌, ◌^◌, ◌≤◌, ◌<◌}
use native.Mathlib.Nat.{pow-suc, pow-succ', pow-le-pow_right, div-div-eq-div-mul}
use native.Mathlib.Numerals.{add-one}
use native.Mathlib.Omega.{arith}
use lib.ListN.{length, get_or, set}
use Rattle.lists.specs.Lists.{overlay_at}
use Rattle.lists.proofs.Lists.{overlay_at_more}
use Rattle.bitmap.specs.Numbers.{number_at, number_bytes}

-- a number of up to four bytes is below 2^32
module _ (file : List ℕ) (bytes : (k : ℕ) → get_or file k 0 < 256) where
  number_lt : (size at : ℕ) → number_at size file at < 256 ^ size
  number_lt zero at = omega arith
  number_lt (suc size) at = rw (pow-suc 256 size) (omega (arith, number_lt size (suc at), bytes at))

  pub number_small : (size at : ℕ) → size ≤ 4 → number_at size file at < 256 ^ 4
  number_small size at h = omega (arith, number_lt size at, pow-le-pow_right {n = 256} (omega arith) {i = size} {j = 4} h)

-- ---- a number that is written from its low byte up

-- what is left of it after i bytes, and after one more
pub left_next : (n left i : ℕ) → left ≡ n / 256 ^ i → left / 256 ≡ n / 256 ^ (i + 1)
left_next n left i e = rw (add-one, pow-suc, e) (div-div-eq-div-mul n (256 ^ i) 256)

pub length-number : (size n : ℕ) → length (number_bytes size n) ≡ size
length-number zero n = refl
length-number (suc size) n = ap suc (length-number size (n / 256))

bytes_next : (i n : ℕ) → number_bytes (suc i) n ≡ number_bytes i n ++ (n / 256 ^ i % 256 ∷ [])
bytes_next zero n = let e : n / 1 ≡ n = omega arith in rw e
bytes_next (suc i) n =
    rw (pow-succ', ← div-div-eq-div-mul n 256 (256 ^ i)) (ap (λ (l : List ℕ). n % 256 ∷ l) (bytes_next i (n / 256)))

-- a turn of the loop
pub number_more : (at : ℕ) (out d : List ℕ) (j i n left : ℕ)
    → d ≡ overlay_at at (number_bytes j n) out → i ≡ at + j → left ≡ n / 256 ^ j → i < length out
    → set d i (left % 256) ≡ overlay_at at (number_bytes (j + 1) n) out
number_more at out d j i n left e p q h =
    let more : number_bytes (j + 1) n ≡ number_bytes j n ++ (n / 256 ^ j % 256 ∷ []) = rw add-one (bytes_next j n) in
    rw (more, q)
    (overlay_at_more at out (number_bytes j n) d i (n / 256 ^ j % 256) e (p ∙ ap (λ (m : ℕ). at + m) (sym (length-number j n))) h)

-- ---- there and back

pub number_tail : (size x at : ℕ) (file : List ℕ) → number_at size (x ∷ file) (suc at) ≡ number_at size file at
number_tail zero x at file = refl
number_tail (suc size) x at file = ap (λ (m : ℕ). get_or file at 0 + 256 * m) (number_tail size x (suc at) file)

-- a number that fits its bytes is read as it was written
pub number-back : (size n : ℕ) (rest : List ℕ) → n < 256 ^ size → number_at size (number_bytes size n ++ rest) 0 ≡ n
number-back zero n rest h = omega arith
number-back (suc size) n rest h =
    let l : n / 256 < 256 ^ size = omega (arith, pow-suc 256 size) in
    rw (number_tail size (n % 256) 0 (number_bytes size (n / 256) ++ rest), number-back size (n / 256) rest l) (omega arith)
