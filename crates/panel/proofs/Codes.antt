-- The codes have two bits.
-- Assumes nothing.
use mathlib.Core.Path.{refl}
use mathlib.Core.Bool.{Bool, true, false, cond}
use mathlib.Core.List.{[], ◌∷◌}
use Prim.Native.Nat.{ℕ, ◌-◌, ◌<◌}
use lib.Dec.{eqb}
use Rattle.lists.proofs.Cases.{entry_lt}
use Rattle.panel.specs.Codes.{black, white, nothing, where_white, where_black, code_by, code_of}

pub white_lt : (stage : ℕ) → where_white stage < 4
white_lt stage = entry_lt 4 (black ∷ white ∷ black ∷ white ∷ []) refl (stage - 1)

pub black_lt : (stage : ℕ) → where_black stage < 4
black_lt stage = entry_lt 4 (white ∷ nothing ∷ nothing ∷ black ∷ []) refl (stage - 1)

pub code_lt : (stage dot : ℕ) → code_of stage dot < 4
unfolding code_by
code_lt stage dot = either (eqb dot 1)
  where
    either : (b : Bool) → cond b (where_white stage) (where_black stage) < 4
    either true = white_lt stage
    either false = black_lt stage
