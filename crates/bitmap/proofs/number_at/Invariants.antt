-- Each turn adds one byte below those that are read already.
-- Assumes nothing.
use mathlib.Core.Path.{◌≡◌}
use Prim.Native.Nat.{◌+◌, ◌-◌, ◌≤◌}
use Rattle.bitmap.specs.Numbers.{number_at}
use Rattle.bitmap.proofs.number_at.Given as goal

abbrev pub invariant-loop-i : goal.invariant-loop-i
invariant-loop-i l = (l.at ≤ l.i) × (l.n ≡ number_at (l.at + l.size - l.i) l.file l.i)
