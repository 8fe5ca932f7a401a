-- Laws of text.
-- Assumes nothing.
use mathlib.Core.Path.{◌≡◌, refl, sym}
use mathlib.Core.Bool.{Bool, true, false, cond}
use mathlib.Core.List.{List, [], ◌∷◌, ◌++◌, append_assoc}
use Prim.Native.Nat.{ℕ, ◌+◌, ◌*◌, ◌/◌, ◌%◌, ◌≤◌, ◌<◌}
use native.Mathlib.Numerals.{add-one}
use native.Mathlib.Omega.{arith}
use borrow.Author.Tests.{lt-ltb, le-ltb}
use lib.Dec.{ltb}
use lib.ListN.{length, get_or, take, length-append}
use lib.Seq.{take-suc}
use Rattle.listing.specs.Text.{ascii, digit, hex_byte, spaced_bytes, decimal}

-- one byte more
pub spaced_more : (bytes : List ℕ) (byte : ℕ) → spaced_bytes (bytes ++ (byte ∷ [])) ≡ spaced_bytes bytes ++ (ascii " " ++ hex_byte byte)
spaced_more [] byte = refl
spaced_more (x ∷ xs) byte =
    rw (spaced_more xs byte) (sym (append_assoc (ascii " " ++ hex_byte x) (spaced_bytes xs) (ascii " " ++ hex_byte byte)))

pub length_spaced : (bytes : List ℕ) → length (spaced_bytes bytes) ≡ 3 * length bytes
length_spaced [] = refl
length_spaced (x ∷ xs) = rw (length-append (ascii " " ++ hex_byte x) (spaced_bytes xs), length_spaced xs) (omega arith)

-- a number's digits, by how many it has
module _ (n : ℕ) {d₀ : ℕ} (e₀ : d₀ ≡ digit (n % 10)) where
  pub decimal_1 : n < 10 → d₀ ∷ [] ≡ decimal n
  decimal_1 h = rw (lt-ltb n 10 h, e₀)

  module _ {d₁ : ℕ} (e₁ : d₁ ≡ digit (n / 10 % 10)) (l₁ : 10 ≤ n) where
    pub decimal_2 : n < 100 → d₁ ∷ d₀ ∷ [] ≡ decimal n
    decimal_2 h = rw (le-ltb n 10 l₁, lt-ltb n 100 h, e₀, e₁)

    module _ {d₂ : ℕ} (e₂ : d₂ ≡ digit (n / 100 % 10)) (l₂ : 100 ≤ n) where
      pub decimal_3 : n < 1000 → d₂ ∷ d₁ ∷ d₀ ∷ [] ≡ decimal n
      decimal_3 h = rw (le-ltb n 10 l₁, le-ltb n 100 l₂, lt-ltb n 1000 h, e₀, e₁, e₂)

      pub decimal_4 : {d₃ : ℕ} → d₃ ≡ digit (n / 1000 % 10) → 1000 ≤ n → d₃ ∷ d₂ ∷ d₁ ∷ d₀ ∷ [] ≡ decimal n
      decimal_4 e₃ l₃ = rw (le-ltb n 10 l₁, le-ltb n 100 l₂, le-ltb n 1000 l₃, e₀, e₁, e₂, e₃)

short : (b : Bool) (x y : List ℕ) → length x ≤ 4 → length y ≤ 4 → length (cond b x y) ≤ 4
short true x y f g = f
short false x y f g = g

pub decimal_short : (n : ℕ) → length (decimal n) ≤ 4
decimal_short n =
    short (ltb n 10) _ _ (omega arith) (short (ltb n 100) _ _ (omega arith) (short (ltb n 1000) _ _ (omega arith) (omega arith)))

-- one byte more of a list of them
pub spaced_turn : (bytes : List ℕ) (i : ℕ) → i < length bytes
    → spaced_bytes (take (i + 1) bytes) ≡ spaced_bytes (take i bytes) ++ (ascii " " ++ hex_byte (get_or bytes i 0))
spaced_turn bytes i l = rw (add-one i, take-suc bytes i 0 l) (spaced_more (take i bytes) (get_or bytes i 0))
