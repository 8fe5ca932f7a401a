-- At most the bytes of the four fields and of the padding change, so that a list has at most four bytes for each.
-- Assumes nothing.
use mathlib.Core.Path.{◌≡◌, refl, ap, ◌∙◌}
use mathlib.Core.Bool.{Bool, true, false, cond}
use mathlib.Core.List.{List}
use Prim.Native.Nat.{ℕ, zero, suc, ◌+◌, ◌-◌, ◌*◌, ◌%◌, ◌≤◌, ◌<◌}
use native.Mathlib.Nat.{suc-mul}
use native.Mathlib.Decide.{ℕ_discrete, dec_lt}
use native.Mathlib.Omega.{arith}
use borrow.Author.Tests.{lt-ltb, le-ltb}
use lib.Arith.{digits_mod}
use lib.ListN.{length, get_or, length-append}
use Rattle.bitmap.specs.Header.{header_length, file_length}
use Rattle.mend.specs.Mending.{elsewhere}
use Rattle.mend.specs.Changes.{changed}
use Rattle.mend.proofs.Changes.{stays, changes}

-- ---- the places that can change

abbrev one_or : Bool → ℕ
one_or apart = cond apart 0 1

-- how many of the first n they are
abbrev places : (b s n : ℕ) → ℕ
places b s zero = 0
places b s (suc n) = places b s n + one_or (elsewhere b s n)

-- a changed byte is at one of them
module _ (b s : ℕ) (file : List ℕ) (mended : ℕ → ℕ) where
  few : (n : ℕ) → ((k : ℕ) → k < n → elsewhere b s k ≡ true → mended k ≡ get_or file k 0) → length (changed file mended n) ≤ places b s n
  few zero e = omega arith
  few (suc n) e =
      let so_far = few n (λ k l. e k (omega arith)) in
      elim (ℕ_discrete (mended n) (get_or file n 0)) [
        | yes q ↦ rw (stays file mended n q) (omega (arith, so_far))
        | no d ↦ one_more so_far d (elsewhere b s n) refl
      ]
    where
      one_more : length (changed file mended n) ≤ places b s n → (mended n ≡ get_or file n 0 → ⊥) → (apart : Bool) → elsewhere b s n ≡ apart
          → length (changed file mended (suc n)) ≤ places b s n + one_or (elsewhere b s n)
      one_more l d true q = absurd (d (e n (omega arith) q))
      one_more l d false q = rw (q, changes file mended n d, length-append) (omega (arith, l))

-- ---- how many they are

-- the header has four fields of four bytes
header-places : (b s : ℕ) → places b s header_length ≡ 16
header-places b s = refl

module _ (b s : ℕ) (within : b ≤ s) where
  -- whether a byte of a row can change
  place_at_lem : (j r : ℕ) → r < s → one_or (elsewhere b s (header_length + (j * s + r))) + (r - b) ≤ suc r - b
  place_at_lem j r l =
      let k : ℕ = header_length + (j * s + r) in
      let after : header_length ≤ k = omega arith in
      let e : (k - header_length) % s ≡ r = ap (λ (n : ℕ). n % s) (omega_minus (j * s + r)) ∙ digits_mod j l in
      elim (dec_lt r b) [
        | yes q ↦ rw (le-ltb k header_length after, e, lt-ltb r b q) (omega arith)
        | no q ↦ let m : b ≤ r = omega arith in rw (le-ltb k header_length after, e, le-ltb r b m) (omega arith)
      ]
    where
      omega_minus : (n : ℕ) → header_length + n - header_length ≡ n
      omega_minus n = omega arith

  -- the first bytes of row j
  row_places : (j r : ℕ) → r ≤ s → places b s (header_length + (j * s + r)) ≤ places b s (header_length + j * s) + (r - b)
  row_places j zero l = let e : header_length + (j * s + 0) ≡ header_length + j * s = omega arith in rw e (omega arith)
  row_places j (suc r) l =
      let e : header_length + (j * s + suc r) ≡ suc (header_length + (j * s + r)) = omega arith in
      rw e (omega (arith, row_places j r (omega arith), place_at_lem j r l))

  -- the rows have s - b bytes of padding each
  rows-places : (h : ℕ) → places b s (file_length h s) ≤ 16 + h * (s - b)
  rows-places zero = let e : header_length + 0 * s ≡ header_length = omega arith in rw (e, header-places b s) (omega arith)
  rows-places (suc j) =
      let e : header_length + suc j * s ≡ header_length + (j * s + s) = rw suc-mul (omega arith) in
      rw (e, suc-mul j (s - b)) (omega (arith, row_places j s (omega arith), rows-places j))

-- the changes of a whole file, or of one that was cut
pub changes-few : (b h s : ℕ) → b ≤ s → (file : List ℕ) (mended : ℕ → ℕ) (n : ℕ) → n ≤ file_length h s
    → ((k : ℕ) → k < n → elsewhere b s k ≡ true → mended k ≡ get_or file k 0) → length (changed file mended n) ≤ 16 + h * (s - b)
changes-few b h s within file mended n l e =
    omega (arith, few b s file mended n e, places_more b s n (file_length h s) l, rows-places b s within h)
  where
    places_more : (b s n m : ℕ) → n ≤ m → places b s n ≤ places b s m
    places_more b s n zero q = let z : n ≡ 0 = omega arith in rw z (omega arith)
    places_more b s n (suc m) q =
        elim (ℕ_discrete n (suc m)) [
          | yes z ↦ rw z (omega arith)
          | no d ↦ omega (arith, places_more b s n m (omega arith))
        ]
