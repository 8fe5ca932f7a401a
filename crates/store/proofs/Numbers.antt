-- The refusal of a call where some cases come before others.
-- Assumes nothing.
use mathlib.Core.Path.{◌≡◌, refl, ◌∙◌}
use mathlib.Core.Bool.{true}
use mathlib.Core.List.{List, ◌++◌}
use Prim.Native.Nat.{ℕ}
use native.Mathlib.Omega.{arith}
use Rattle.lists.specs.Rules.{Case, first_of}
use Rattle.lists.proofs.Rules.{numbered, some_append, none_of, none_append}
use Rattle.refusal.specs.Numbers.{number_of}
use Rattle.refusal.specs.declared.Refusal.{Refusal}
use Rattle.refusal.proofs.Numbers.{number_some}

module _ (first own : List Case) where
  -- a refusal by the first cases
  pub by_first : (r : Refusal) → number_of r ≡ first_of first (λ n. n) 0 → number_of r ≡ first_of (first ++ own) (λ n. n) 0
  by_first r is = some_append first own (λ n. n) 0 is (λ z. omega (arith, number_some r))

  -- and where none of them applies, the others decide
  pub by_own : numbered first ≡ true → 0 ≡ first_of first (λ n. n) 0 → {n : ℕ} → n ≡ first_of own (λ n. n) 0
      → n ≡ first_of (first ++ own) (λ n. n) 0
  by_own p none is = is ∙ none_append first own (λ n. n) 0 (none_of first p none refl)
