-- Each turn adds what one byte more adds to the list.
-- Assumes nothing.
use mathlib.Core.Path.{◌≡◌}
use lib.ListN.{length}
use Rattle.lists.specs.Lists.{overlay}
use Rattle.mend.specs.Changes.{changed, listed}
use Rattle.mend.specs.Facts.{byte_in}
use Rattle.mend.proofs.Mending.write_changes.Given as goal

abbrev pub invariant-loop-k : goal.invariant-loop-k
invariant-loop-k l = (length l.list ≡ length l.initial.list)
    × (l.at ≡ length (listed l.self.file.now (byte_in l.self) (changed l.self.file.now (byte_in l.self) l.k)))
    × (l.list ≡ overlay (listed l.self.file.now (byte_in l.self) (changed l.self.file.now (byte_in l.self) l.k)) l.initial.list)
