-- The refusals in their order, and the mended file with its list where none applies.
-- Assumes nothing.
use mathlib.Core.Path.{ap, ◌∙◌}
use Prim.Native.Nat.{ℕ}
use native.Mathlib.Omega.{arith}
use lib.ListN.{length}
use Rattle.bitmap.proofs.Check.{rows-small}
use Rattle.mend.specs.Mending.{byte_by}
use Rattle.mend.specs.Answers.{acceptance}
use Rattle.mend.proofs.Changes.{count_le}
use Rattle.mend.proofs.Calls.{lengths, same_rule, not-mendable, short_output, short_list, mended}
use Rattle.mend.proofs.mend_for.Goals as goal

pub returns-then-not-is_mendable : goal.returns-then-not-is_mendable
returns-then-not-is_mendable c =
    let a = c.args in
    let s = a.shape in
    not-mendable s.bytes s.rows s.stride a.file.now a.out.now a.list.now (cc)

pub returns-then-out-full : goal.returns-then-out-full
returns-then-out-full c =
    let a = c.args in
    let s = a.shape in
    short_output s.bytes s.rows s.stride a.file.now a.out.now a.list.now (cc) (omega arith)

pub mended_header-header-requires : goal.mended_header-header-requires
mended_header-header-requires c =
    let s = c.args.shape in
    (lengths s.bytes s.rows s.stride c.args.file.now (cc)).long

pub palette_of-requires : goal.palette_of-requires
palette_of-requires c =
    let s = c.args.shape in
    (lengths s.bytes s.rows s.stride c.args.file.now (cc)).long

pub overflow_mul-changes : goal.overflow_mul-changes
overflow_mul-changes c =
    let a = c.args in
    let s = a.shape in
    let rule = byte_by s.bytes s.stride c.mended_header-header.result c.white_byte-white.result a.file.now in
    let lens = lengths s.bytes s.rows s.stride a.file.now (cc) in
    omega (arith, rows-small s.rows s.stride (omega arith) (omega arith), count_le a.file.now rule (length a.file.now))

pub returns-then-list-changes : goal.returns-then-list-changes
returns-then-list-changes c =
    let a = c.args in
    let s = a.shape in
    let rule = byte_by s.bytes s.stride c.mended_header-header.result c.white_byte-white.result a.file.now in
    let same = same_rule s.bytes s.rows s.stride a.file.now c.mended_header-header.ensures c.white_byte-white.ensures c.palette_of.ensures in
    short_list s.bytes s.rows s.stride a.file.now a.out.now a.list.now (cc) (omega arith) rule same _ c.count_changes-changes.ensures
    c.if-list-changes.true

pub write_changes-requires : goal.write_changes-requires
write_changes-requires c =
    let s = c.args.shape in
    let lens = lengths s.bytes s.rows s.stride c.args.file.now (cc) in
    (omega (arith, rows-small s.rows s.stride (omega arith) (omega arith)), omega arith)

pub accepted-requires : goal.accepted-requires
accepted-requires c =
    let s = c.args.shape in
    let lens = lengths s.bytes s.rows s.stride c.args.file.now (cc) in
    omega arith

pub returns : goal.returns
returns c =
    let a = c.args in
    let s = a.shape in
    let rule = byte_by s.bytes s.stride c.mended_header-header.result c.white_byte-white.result a.file.now in
    let same = same_rule s.bytes s.rows s.stride a.file.now c.mended_header-header.ensures c.white_byte-white.ensures c.palette_of.ensures in
    mended s.bytes s.rows s.stride a.file.now a.out.now a.list.now (cc) (omega arith) rule same _ c.count_changes-changes.ensures
    c.if-list-changes.false
    (c.accepted.ensures ∙ ap (λ (n : ℕ). acceptance n (length a.file.now) c.count_changes-changes.result) c.file_length-full.ensures)
    c.write_file.ensures c.write_changes.ensures
