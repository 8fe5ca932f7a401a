-- Each turn takes in one piece more, and the whole rows after it, and leaves the rest to be taken in from there.
-- Assumes nothing.
use mathlib.Core.Path.{◌≡◌}
use Prim.Native.Nat.{◌+◌, ◌≤◌}
use lib.ListN.{length}
use Rattle.bitmap.specs.Header.{file_length}
use Rattle.fill.specs.Feeding.{bytes_fed}
use Rattle.fill.proofs.take_bytes.Given as goal

abbrev pub invariant-loop-rest : goal.invariant-loop-rest
invariant-loop-rest l = (l.here.came + length l.rest ≤ file_length l.shape.rows l.shape.stride)
    × (bytes_fed l.shape.bytes l.shape.rows l.shape.stride (l.here, l.raw) l.rest
    ≡ bytes_fed l.shape.bytes l.shape.rows l.shape.stride (l.initial.here, l.initial.raw) l.chunk)

abbrev pub decreases-loop-rest : goal.decreases-loop-rest
decreases-loop-rest l = length l.rest
