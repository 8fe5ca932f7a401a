-- Each turn reads one byte more, and leaves the question of whether the rest of the number begins.
-- Assumes nothing.
use mathlib.Core.Path.{◌≡◌}
use Rattle.bitmap_prefix.specs.Begins.{number_begins}
use Rattle.bitmap_prefix.proofs.Reading.{left_begins}
use Rattle.bitmap_prefix.proofs.number_begins.Given as goal

abbrev pub invariant-loop-i : goal.invariant-loop-i
invariant-loop-i l = left_begins l.bytes l.size l.i l.at l.left ≡ number_begins l.size l.bytes l.at l.number
