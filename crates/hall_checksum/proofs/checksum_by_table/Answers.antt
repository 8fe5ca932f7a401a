-- The code's table is the definition's, entry by entry; and the checksum on it is the one that is printed.
-- Assumes nothing.
use mathlib.Core.Path.{refl, ◌∙◌}
use native.Mathlib.Omega.{arith}
use borrow.Author.Rules.{rules}
use Rattle.hall_checksum.specs.Checksum.{add_byte, swap_bytes, mix_up, mix_down, mix_across, crc16_add}
use Rattle.hall_checksum.proofs.Crc.{table_is, checksums_equal}
use Rattle.hall_checksum.proofs.checksum_by_table.Goals as goal

pub table_checksum-requires : goal.table_checksum-requires
unfolding crc16_add add_byte swap_bytes mix_up mix_down mix_across
table_checksum-requires c = table_is _ refl refl

pub returns : goal.returns
returns c =
    let a = c.args in
    let known = c.type_inv.bytes in
    let equal = checksums_equal a.start a.bytes.now (omega arith) (λ k. omega (arith, known k)) in
    search (rules, c.table_checksum.ensures ∙ equal)
