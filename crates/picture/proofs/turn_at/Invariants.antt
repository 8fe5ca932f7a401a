-- Each turn puts one byte more, with its dots turned over.
-- Assumes nothing.
use mathlib.Core.Path.{◌≡◌}
use mathlib.Core.List.{map}
use lib.ListN.{length, take}
use Rattle.lists.specs.Lists.{overlay_at}
use Rattle.picture.specs.Pictures.{turned}
use Rattle.picture.proofs.turn_at.Given as goal

abbrev pub invariant-loop-i : goal.invariant-loop-i
invariant-loop-i l = (length l.out ≡ length l.initial.out) × (l.out ≡ overlay_at l.at (take l.i (map turned l.bytes)) l.initial.out)
