-- The values of a call, for theorems over calls that keep a contract as the checker makes it from the source. A function has n lifetimes, the
-- parameters `ps` and the result `r`; the checker names these in its `Kinds`, and its contract in its `Reads`.
-- Assumes nothing.
use Prim.Native.Nat.{ℕ}
use mathlib.Core.List.{List}
use contract.Lifetimes.{Lfts}
use borrow.Fn.Kinds.{ParamKind, ResultKind, Dens, res_t, ended_of, In, Out}
use denote.Triple.Clauses.{AtExit}

-- arguments, result and parameters at exit, for which the contract holds
pub record Call (n : ℕ) (ps : List (ParamKind n)) (r : ResultKind n) (Learnt : Out n ps r) : Type 0 where
  pub lifetimes : Lfts n
  pub args : Dens lifetimes ps
  pub result : (res_t r lifetimes).Denot
  pub exit : AtExit (ended_of n ps r) lifetimes
  pub promised : Learnt lifetimes args result exit

-- a contract that asks nothing of the arguments, whatever they are
abbrev pub AsksNothing : (n : ℕ) (ps : List (ParamKind n)) (Asked : In n ps) → Type 0
AsksNothing n ps Asked = (l : Lfts n) (args : Dens l ps) → Asked l args
