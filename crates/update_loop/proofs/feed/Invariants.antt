-- The loop goes over what is left of the file: feeding it from where the loop stands ends as feeding all of it from the start does.
-- Assumes nothing.
use Rattle.std.proofs.Common.{◌≡◌, ◌<◌, length}
use Rattle.update_loop.specs.Loop.{chunks_of, fed_all}
use Rattle.update_loop.proofs.feed.Given as goal

abbrev pub invariant-loop-rest : goal.invariant-loop-rest
invariant-loop-rest l = (length l.memory ≡ length l.initial.memory) × (0 < l.size)
    × (fed_all (chunks_of l.size l.rest) l.state l.memory ≡ fed_all (chunks_of l.size l.initial.rest) l.initial.state l.initial.memory)

abbrev pub decreases-loop-rest : goal.decreases-loop-rest
decreases-loop-rest l = length l.rest
