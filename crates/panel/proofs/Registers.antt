-- The lengths of the registers' data.
-- Assumes nothing.
use mathlib.Core.Path.{◌≡◌, refl}
use mathlib.Core.List.{List, [], ◌∷◌}
use Prim.Native.Nat.{ℕ, ◌≤◌, ◌<◌}
use native.Mathlib.Omega.{arith}
use lib.ListN.{get_or-eq_default}
use Rattle.lists.proofs.Cases.{Each, none, more, each, entry_lt}
use Rattle.panel.specs.Registers.{data_length}

abbrev lengths : List ℕ
lengths = 0 ∷ 8 ∷ 1 ∷ 1 ∷ 1 ∷ 1 ∷ 1 ∷ 1 ∷ 1 ∷ 2 ∷ []

pub data_length-le : (register : ℕ) → data_length register ≤ 8
unfolding data_length
data_length-le register = omega (arith, entry_lt 9 lengths refl register)

pub no_register : (register : ℕ) → 10 ≤ register → data_length register ≡ 0
unfolding data_length
no_register register h = get_or-eq_default lengths 0 {n = register} h

pub one_byte : (register : ℕ) → 2 ≤ register → register < 9 → 1 ≡ data_length register
unfolding data_length
one_byte register low high =
    let one : ℕ → Type 0 = λ r. 2 ≤ r → 1 ≡ data_length r in
    let none_yet : Each one 2 = more (more none (λ h. absurd (omega (arith, h)))) (λ h. absurd (omega (arith, h))) in
    each one 9 (more (more (more (more (more (more (more none_yet (λ _. refl)) (λ _. refl)) (λ _. refl)) (λ _. refl)) (λ _. refl)) (λ _. refl)) (λ _. refl)) register high low
