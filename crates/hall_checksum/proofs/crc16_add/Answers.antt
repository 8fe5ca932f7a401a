-- The code cuts the shifts to 16 bits, the definition each assignment.
-- Assumes nothing.
use native.Mathlib.Omega.{arith}
use Rattle.hall_checksum.proofs.Crc.{code_right}
use Rattle.hall_checksum.proofs.crc16_add.Goals as goal

pub returns : goal.returns
returns c = rw c.from-acc.ensures (code_right c.args.byte c.args.before (omega arith) (omega arith))
