-- What is left of the bytes goes on from the value so far.
-- Assumes nothing.
use mathlib.Core.Path.{◌≡◌}
use lib.ListN.{drop}
use Rattle.hall_checksum.specs.Checksum.{checksum_from}
use Rattle.hall_checksum.proofs.checksum.Given as goal

abbrev pub invariant-loop-byte : goal.invariant-loop-byte
invariant-loop-byte l = checksum_from l.acc (drop l.byte-index l.bytes) ≡ checksum_from l.fn.start l.bytes
