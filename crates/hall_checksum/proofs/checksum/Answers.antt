-- One byte less is left, or none.
-- Assumes nothing.
use mathlib.Core.Path.{◌∙◌}
use native.Mathlib.Omega.{arith}
use Rattle.hall_checksum.proofs.Crc.{checksum_next, checksum_end}
use Rattle.hall_checksum.proofs.checksum.Goals as goal

pub loop-byte-preserved : goal.loop-byte-preserved
loop-byte-preserved c =
    let l = c.loop-byte in
    checksum_next c.args.bytes.now l.byte-index l.acc (omega arith) c.crc16_add-acc.ensures ∙ l.invariant

pub returns : goal.returns
returns c =
    let l = c.loop-byte in
    checksum_end c.args.bytes.now l.byte-index l.acc (omega arith) ∙ l.invariant
