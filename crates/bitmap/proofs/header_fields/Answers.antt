-- Each entry of the table gives its field.
-- Assumes nothing.
use mathlib.Core.Path.{◌≡◌, sym, ap, ◌∙◌}
use lib.ListN.{length, length-map}
use borrow.Author.Rules.{rules}
use Rattle.bitmap.specs.Table.{field_of}
use Rattle.bitmap.proofs.Fields.{no_entry, no_field}
use Rattle.bitmap.proofs.Mapped.{mapped}
use Rattle.bitmap.proofs.header_fields.Goals as goal

pub returns : goal.returns
returns c =
    let s = c.args.shape in
    let whole = c.table.ensures s.bytes s.rows s.stride in
    let long : length c.table.result ≡ 17 = sym (length-map c.table.result (field_of s.bytes s.rows s.stride)) ∙ ap length whole in
    mapped _ (field_of s.bytes s.rows s.stride) _ (λ x y q k. search rules) _ _ 17 no_entry no_field long c.map.ensures.items ∙ whole
