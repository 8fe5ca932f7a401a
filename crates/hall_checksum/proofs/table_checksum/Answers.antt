-- Two bytes less are left; then one, or none.
-- Assumes nothing.
use mathlib.Core.Path.{◌≡◌, ◌∙◌}
use Prim.Native.Nat.{◌*◌, ◌/◌, ◌%◌}
use lib.ListN.{length}
use native.Mathlib.Omega.{arith}
use Rattle.std.proofs.lemmas.Bool.Decides.{nat_tests}
use Rattle.hall_checksum.proofs.Crc.{table_pair, table_odd, table_end}
use Rattle.hall_checksum.proofs.table_checksum.Goals as goal

pub loop-first-preserved : goal.loop-first-preserved
loop-first-preserved c =
    let l = c.loop-first in
    table_pair c.args.bytes.now l.first-index l.acc _ (omega (arith, c.as_chunks.ensures.front_len))
    (rw c.as_chunks.ensures.front at c.table_add_two-acc.ensures)
    ∙ l.invariant

pub returns-then-is_empty : goal.returns-then-is_empty
returns-then-is_empty c =
    let bytes = c.args.bytes.now in
    let l = c.loop-first in
    let pairs : length c.as_chunks.result.0.now ≡ length bytes / 2 = c.as_chunks.ensures.front_len in
    let rest : length c.as_chunks.result.1.now ≡ length bytes % 2 = c.as_chunks.ensures.back_len in
    let e : l.first-index ≡ length bytes / 2 = omega arith in
    table_end bytes (2 * l.first-index) l.acc (grind (arith, nat_tests)) ∙ l.invariant

pub returns : goal.returns
returns c =
    let bytes = c.args.bytes.now in
    let l = c.loop-first in
    let pairs : length c.as_chunks.result.0.now ≡ length bytes / 2 = c.as_chunks.ensures.front_len in
    let rest : length c.as_chunks.result.1.now ≡ length bytes % 2 = c.as_chunks.ensures.back_len in
    let e : l.first-index ≡ length bytes / 2 = omega arith in
    let odd : length bytes % 2 ≡ 1 = grind (arith, nat_tests) in
    table_odd bytes c.as_chunks.result.1.now l.first-index l.acc e c.as_chunks.ensures.back odd c.table_add.ensures ∙ l.invariant
