-- The theorem once more, of every call that keeps the contract of `layout` as the checker makes it from the source. A contract that is
-- weakened in src/ is refused here, even where every function is still proved.
-- Assumes nothing.
use mathlib.Core.Path.{sym, subst}
use mathlib.Core.List.{List}
use Prim.Native.Nat.{ℕ}
use Rattle.lists.proofs.Calls.{Call, AsksNothing}
use Rattle.layout.specs.Answer.{answer_given}
use Rattle.layout.specs.Tiling.{Tiled}
use Rattle.layout.proofs.Tiling.{layout_tiles}
use Rattle.layout.proofs.layout.Kinds as layout-kinds
use Rattle.layout.proofs.layout.Reads as layout-reads

-- a call: its arguments, its result and its parameters at exit, for which the contract holds
abbrev pub Kept : Type 0
Kept = Call 1 layout-kinds.ps layout-kinds.r layout-reads.Learnt

-- the places of its arguments are named here and nowhere else
abbrev pub panel_in : Kept → ℕ
panel_in c = c.args.0

abbrev pub list_in : Kept → List ℕ
list_in c = c.args.1.0.now

pub layout_tied : (c : Kept) → Tiled (panel_in c) (answer_given c.result)
layout_tied c = subst (Tiled (panel_in c)) (sym c.promised) (layout_tiles (panel_in c) (list_in c))

-- and it asks nothing of what it is given
pub asks_nothing : AsksNothing 1 layout-kinds.ps layout-reads.Asked
asks_nothing = λ l args. tt
