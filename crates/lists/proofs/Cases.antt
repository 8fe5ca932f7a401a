-- What holds of every number below a bound, shown number by number.
-- Assumes nothing.
use mathlib.Core.Path.{◌≡◌}
use mathlib.Core.Bool.{Bool, true, ◌&&◌}
use mathlib.Core.List.{List, [], ◌∷◌}
use Prim.Native.Nat.{ℕ, zero, suc, ◌<◌}
use native.Mathlib.Nat.{not-suc-le-zero}
use native.Mathlib.Decide.{ℕ_discrete}
use native.Mathlib.Omega.{arith}
use borrow.Author.Tests.{ltb-true}
use lib.Dec.{ltb}
use lib.ListN.{get_or}
use Rattle.lists.proofs.Rules.{and_left, and_right}

-- P 0, P 1, .., P (n - 1)
pub data Each (P : ℕ → Type 0) : ℕ → Type 0 where
  none : Each P 0
  more : {n : ℕ} → Each P n → P n → Each P (suc n)

pub each : (P : ℕ → Type 0) (n : ℕ) → Each P n → (k : ℕ) → k < n → P k
each P zero none k h = absurd (not-suc-le-zero h)
each P (suc n) (more before last) k h =
    elim (ℕ_discrete k n) [
      | yes e ↦ rw e last
      | no d ↦ each P n before k (omega arith)
    ]

-- ---- tables

-- every entry, and 0, is below a bound
abbrev pub entries_below : ℕ → List ℕ → Bool
entries_below k [] = ltb 0 k
entries_below k (x ∷ xs) = ltb x k && entries_below k xs

-- an entry of a table, and 0 past its end, is below a bound that is computed to hold of all
pub entry_lt : (k : ℕ) (table : List ℕ) → entries_below k table ≡ true → (i : ℕ) → get_or table i 0 < k
entry_lt k [] e i = ltb-true 0 k e
entry_lt k (x ∷ xs) e zero = ltb-true x k (and_left (ltb x k) (entries_below k xs) e)
entry_lt k (x ∷ xs) e (suc i) = entry_lt k xs (and_right (ltb x k) (entries_below k xs) e) i
