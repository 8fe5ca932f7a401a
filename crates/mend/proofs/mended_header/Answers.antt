-- Each field lies in the header, and is mended there.
-- Assumes nothing.
use mathlib.Core.Path.{◌≡◌, ◌∙◌}
use Prim.Native.Nat.{◌<◌}
use native.Mathlib.Omega.{arith}
use borrow.Author.Rules.{rules}
use lib.ListN.{take}
use Rattle.bitmap.specs.Header.{header_length, header_fields}
use Rattle.bitmap.proofs.Fields.{no_field, field-within, field-small, entry_at}
use Rattle.mend.specs.Mending.{mended_header}
use Rattle.mend.proofs.Fields.{mend_next}
use Rattle.mend.proofs.mended_header.Goals as goal

pub loop-entry-init : goal.loop-entry-init
loop-entry-init c = (omega arith, c.copy_from_slice.ensures.after)

pub mend_field-requires : goal.mend_field-requires
mend_field-requires c =
    let s = c.args.shape in
    let l = c.loop-entry in
    let low : l.entry-index < 17 = omega arith in
    let here =
    c.field_of.ensures
    ∙ entry_at s.bytes s.rows s.stride c.table.result (c.table.ensures s.bytes s.rows s.stride) l.entry-index low _ in
    let within = field-within s.bytes s.rows s.stride l.entry-index low in (
      rw here (field-small s.bytes s.rows s.stride l.entry-index low),
      rw here (omega (arith, within, c.requires)),
      rw here (omega (arith, within, l.invariant.0)),
    )

pub loop-entry-preserved : goal.loop-entry-preserved
loop-entry-preserved c =
    let s = c.args.shape in
    let l = c.loop-entry in
    let here =
    c.field_of.ensures
    ∙ entry_at s.bytes s.rows s.stride c.table.result (c.table.ensures s.bytes s.rows s.stride) l.entry-index (omega arith) _ in (
      search rules,
      mend_next c.args.file.now (header_fields s.bytes s.rows s.stride) l.entry-index (omega arith) no_field
          (take header_length c.args.file.now) l.invariant.1 (rw here at c.mend_field.ensures),
    )

pub returns : goal.returns
unfolding mended_header
returns c =
    let l = c.loop-entry in
    let e : l.entry-index ≡ 17 = omega arith in
    rw e at l.invariant.1
