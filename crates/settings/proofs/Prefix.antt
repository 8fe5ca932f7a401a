-- How bytes begin, as std tells it.
-- Assumes nothing.
use mathlib.Core.Path.{◌≡◌, refl, sym, ◌∙◌}
use mathlib.Core.List.{List, [], ◌∷◌}
use Prim.Native.Nat.{ℕ}
use native.Mathlib.Decide.{ℕ_discrete}
use borrow.Author.Tests.{eq-eqb, ne_eqb}
use lib.Dec.{eqb}
use Rattle.std.specs.List.{starts_with}
use Rattle.settings.specs.Settings.{has_prefix}

eqb_swap : (a b : ℕ) → eqb a b ≡ eqb b a
eqb_swap a b =
    elim (ℕ_discrete a b) [
      | yes e ↦ eq-eqb a b e ∙ sym (eq-eqb b a (sym e))
      | no d ↦ ne_eqb a b d ∙ sym (ne_eqb b a (λ q. d (sym q)))
    ]

pub prefix_is : (s p : List ℕ) → starts_with eqb s p ≡ has_prefix s p
prefix_is s [] = refl
prefix_is [] (y ∷ ys) = refl
prefix_is (x ∷ xs) (y ∷ ys) = rw (eqb_swap y x, prefix_is xs ys)
