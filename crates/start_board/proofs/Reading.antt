-- A word is taken apart into the kind and the value that it was made of.
-- Assumes nothing.
use mathlib.Core.Path.{◌≡◌}
use Prim.Native.Nat.{ℕ, ◌^◌, ◌<◌}
use native.Mathlib.Omega.{arith}
use Rattle.start_board.specs.Words.{word, kind_in, value_in}

pub kind_of_lem : (kind value : ℕ) → value < 2 ^ 24 → kind_in (word kind value) ≡ kind
kind_of_lem kind value h = omega arith

pub value_of : (kind value : ℕ) → value < 2 ^ 24 → value_in (word kind value) ≡ value
value_of kind value h = omega arith
