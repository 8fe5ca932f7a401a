-- Each turn writes one byte more.
-- Assumes nothing.
use mathlib.Core.Path.{◌≡◌}
use lib.ListN.{length}
use Rattle.lists.specs.Lists.{tabulate, overlay}
use Rattle.mend.specs.Facts.{byte_in}
use Rattle.mend.proofs.Mending.write_file.Given as goal

abbrev pub invariant-loop-k : goal.invariant-loop-k
invariant-loop-k l = (length l.out ≡ length l.initial.out) × (l.out ≡ overlay (tabulate l.k (byte_in l.self)) l.initial.out)
