-- A byte of a line is four joined codes, and comes from one picture byte.
-- Assumes nothing.
use mathlib.Core.Path.{◌≡◌, refl}
use mathlib.Core.Bool.{Bool, true, false, cond}
use mathlib.Core.List.{List}
use Prim.Native.Nat.{ℕ, ◌+◌, ◌-◌, ◌*◌, ◌/◌, ◌%◌, ◌<◌}
use native.Mathlib.Omega.{arith}
use lib.ListN.{get_or}
use Rattle.panel.specs.Dots.{bit, row_dot}
use Rattle.wire.specs.Line.{pack_codes, even_byte, odd_byte, dots_byte}

-- four codes, joined one by one
pub joined : {a b c d p q r s t u v : ℕ} → p ≡ a → q ≡ b → t ≡ p * 4 + q → r ≡ c → u ≡ t * 4 + r → s ≡ d → v ≡ u * 4 + s
    → v ≡ pack_codes a b c d
joined e₁ e₂ f₁ e₃ f₂ e₄ f₃ = omega arith

-- dot 8j + i of a row is dot i of its byte j
dot_bit : (row : List ℕ) (j i x : ℕ) → i < 8 → x ≡ 8 * j + i → row_dot row x ≡ bit (get_or row j 0) i
unfolding row_dot
dot_bit row j i x h e =
    let p : x / 8 ≡ j = omega arith in
    let q : x % 8 ≡ i = omega arith in
    rw (p, q)

module _ (code : ℕ → ℕ) (row : List ℕ) where
  even_byte_lem : (j : ℕ) → even_byte (λ x. code (row_dot row x)) j ≡ even_byte (λ x. code (bit (get_or row j 0) x)) 0
  unfolding even_byte
  even_byte_lem j =
      rw
      (dot_bit row j 0 (8 * j) (omega arith) (omega arith), dot_bit row j 2 (8 * j + 2) (omega arith) refl, dot_bit row j 4 (8 * j + 4) (omega arith) refl, dot_bit row j 6 (8 * j + 6) (omega arith) refl)

  -- b is the row's bytes
  odd_byte_lem : (b k : ℕ) → k < b
      → odd_byte (8 * b) (λ x. code (row_dot row x)) k ≡ odd_byte 8 (λ x. code (bit (get_or row (b - 1 - k) 0) x)) 0
  unfolding odd_byte
  odd_byte_lem b k h =
      let j : ℕ = b - 1 - k in
      rw
      (dot_bit row j 7 (8 * b - 1 - 8 * k) (omega arith) (omega arith), dot_bit row j 5 (8 * b - 3 - 8 * k) (omega arith) (omega arith), dot_bit row j 3 (8 * b - 5 - 8 * k) (omega arith) (omega arith), dot_bit row j 1 (8 * b - 7 - 8 * k) (omega arith) (omega arith))

  -- both: byte k of a row comes from the row's byte k from its first on, or from its last back
  pub dots_byte_lem : (odd : Bool) (b k : ℕ) → k < b
      → dots_byte odd (8 * b) (λ x. code (row_dot row x)) k ≡ dots_byte odd 8 (λ x. code (bit (get_or row (cond odd (b - 1 - k) k) 0) x)) 0
  dots_byte_lem true b k h = odd_byte_lem b k h
  dots_byte_lem false b k h = even_byte_lem k
