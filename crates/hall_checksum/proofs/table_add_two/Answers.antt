-- Both entries, by the table that is lent.
-- Assumes nothing.
use Prim.Native.Nat.{◌%◌}
use native.Mathlib.Omega.{arith}
use lib.Bits.{bit_xor}
use Rattle.hall_checksum.proofs.Crc.{entry_high}
use Rattle.hall_checksum.proofs.table_add_two.Goals as goal

pub overflow_cast-result : goal.overflow_cast-result
overflow_cast-result c =
    let a = c.args in
    omega (arith, entry_high a.table.now (bit_xor a.acc a.first % 256) c.requires (omega arith))

pub returns : goal.returns
returns c = rw (c.from-3.ensures, c.from-4.ensures, c.from.ensures, c.from-2.ensures, c.requires)
