-- Each turn writes the lowest byte of what is left of the number.
-- Assumes nothing.
use mathlib.Core.Path.{◌≡◌}
use Prim.Native.Nat.{◌-◌, ◌/◌, ◌^◌}
use lib.ListN.{length}
use Rattle.lists.specs.Lists.{overlay_at}
use Rattle.bitmap.specs.Numbers.{number_bytes}
use Rattle.bitmap.proofs.put_number.Given as goal

abbrev pub invariant-loop-i : goal.invariant-loop-i
invariant-loop-i l =
    (l.left ≡ l.n / 256 ^ (l.i - l.at)) × (length l.out ≡ length l.initial.out)
    × (l.out ≡ overlay_at l.at (number_bytes (l.i - l.at) l.n) l.initial.out)
