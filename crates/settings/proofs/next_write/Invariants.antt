-- `next_write`: the waits passed and those before the next write of the steps that are left, from `at` on, are together those of all n, and
-- both have the same next write. Assumes nothing.
use Prim.Native.Nat.{◌-◌}
use Rattle.panel.specs.Names.{panel_code}
use Rattle.settings.proofs.Waits.{Waiting}
use Rattle.settings.proofs.next_write.Given as goal

abbrev pub invariant-loop-i : goal.invariant-loop-i
invariant-loop-i l = Waiting (panel_code l.panel) l.n l.at-2 l.file (l.n - l.i) l.at l.waits
