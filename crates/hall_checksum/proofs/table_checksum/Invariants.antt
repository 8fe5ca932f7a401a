-- What is left of the bytes goes on from the value so far, two at a time.
-- Assumes nothing.
use mathlib.Core.Path.{◌≡◌}
use Prim.Native.Nat.{◌*◌}
use lib.ListN.{drop}
use Rattle.hall_checksum.specs.Checksum.{table_checksum}
use Rattle.hall_checksum.proofs.table_checksum.Given as goal

abbrev pub invariant-loop-first : goal.invariant-loop-first
invariant-loop-first l = table_checksum l.acc (drop (2 * l.first-index) l.bytes) ≡ table_checksum l.fn.start l.bytes
