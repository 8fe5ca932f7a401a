-- The loop goes over what is left of `shown`: with fewer polls left, from where it stands, it ends as it would have from the start.
-- Assumes nothing.
use Rattle.std.proofs.Common.{◌≡◌, ◌-◌, ◌≤◌, length}
use Rattle.update_loop.specs.Loop.{enough, showing, shown}
use Rattle.update_loop.proofs.show.Given as goal

abbrev pub invariant-loop-made : goal.invariant-loop-made
invariant-loop-made l = (length l.memory ≡ length l.initial.memory) × (length l.bus ≡ length l.initial.bus) × (l.at ≤ length l.bus)
    × (shown (enough - l.made) (showing l.state l.tick l.memory l.bus l.at) ≡ shown enough (showing l.initial.state l.initial.tick l.initial.memory l.initial.bus l.initial.at))
