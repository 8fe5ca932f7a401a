-- Laws of palettes, and of the dots that they make of a byte.
-- Assumes nothing.
use Rattle.std.proofs.Common.{Option, Some, None}
use mathlib.Core.Path.{◌≡◌, refl, ap}
use mathlib.Core.List.{List, [], ◌∷◌, map}
use Prim.Native.Nat.{ℕ, ◌<◌}
use native.Mathlib.Omega.{arith}
use Rattle.bitmap.specs.Palettes.{dots_of}
use Rattle.bitmap.specs.declared.Palette.{Palette}
use Rattle.bitmap.specs.declared.Palette.TheVariants.{BlackFirst, WhiteFirst}

-- bytes stay bytes
pub dots_lt : (palette : Option Palette) (byte : ℕ) → byte < 256 → dots_of palette byte < 256
dots_lt (Some BlackFirst) byte h = h
dots_lt (Some WhiteFirst) byte h = omega arith
dots_lt None byte h = h

-- a palette that leaves each byte leaves them all
pub dots_same : (palette : Option Palette) → ((byte : ℕ) → dots_of palette byte ≡ byte) → (l : List ℕ) → map (dots_of palette) l ≡ l
dots_same palette e [] = refl
dots_same palette e (x ∷ l) = rw (e x) (ap (λ (m : List ℕ). x ∷ m) (dots_same palette e l))
