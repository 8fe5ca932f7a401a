-- Each field is the table's, written right after the one before it.
-- Assumes nothing.
use mathlib.Core.Path.{◌≡◌, ◌∙◌}
use Prim.Native.Nat.{◌<◌}
use native.Mathlib.Omega.{arith}
use Rattle.bitmap.proofs.Fields.{field-within, entry_at}
use Rattle.bitmap_codec.specs.Codec.{header}
use Rattle.bitmap_codec.proofs.Header.{written_next}
use Rattle.bitmap_codec.proofs.write_header.Goals as goal

pub returns : goal.returns
unfolding header
returns c =
    let l = c.loop-entry in
    let e : l.entry-index ≡ 17 = omega arith in
    rw e at l.invariant

pub put_number-requires : goal.put_number-requires
put_number-requires c =
    let s = c.args.shape in
    let i = c.loop-entry.entry-index in
    let low : i < 17 = omega arith in
    let here =
    c.field_of-field.ensures ∙ entry_at s.bytes s.rows s.stride c.table.result (c.table.ensures s.bytes s.rows s.stride) i low _ in
    rw here (omega (arith, field-within s.bytes s.rows s.stride i low))

pub loop-entry-preserved : goal.loop-entry-preserved
loop-entry-preserved c =
    let l = c.loop-entry in
    let a = c.args in
    let s = a.shape in
    written_next s.bytes s.rows s.stride l.entry-index (omega arith) c.field_of-field.result
    (c.field_of-field.ensures
    ∙ entry_at s.bytes s.rows s.stride c.table.result (c.table.ensures s.bytes s.rows s.stride) l.entry-index (omega arith) _)
    a.out.now (omega arith) l.invariant c.put_number.ensures
