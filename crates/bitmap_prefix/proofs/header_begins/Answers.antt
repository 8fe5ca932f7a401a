-- The palette is asked first; then the closure asks the field of each entry of the table.
-- Assumes nothing.
use mathlib.Core.Path.{sym, ◌∙◌}
use borrow.Author.Rules.{rules}
use borrow.Author.Tests.{tests}
use Rattle.std.proofs.lemmas.Iterator.{YieldsList-from_slice}
use Rattle.std.proofs.lemmas.Iterator.Search.{all_from_yields_List}
use Rattle.std.proofs.lemmas.Iterator.Adapters.{serves_from_places}
use Rattle.bitmap.specs.Table.{field_of}
use Rattle.bitmap.proofs.Fields.{entry-within, each_entry}
use Rattle.bitmap_prefix.specs.Begins.{field_begins}
use Rattle.bitmap_prefix.proofs.Begins.{fields_decide}
use Rattle.bitmap_prefix.proofs.header_begins.Goals as goal

pub returns-then-palette_begins : goal.returns-then-palette_begins
returns-then-palette_begins c =
    let a = c.args in
    let s = a.shape in
    all_from_yields_List (λ entry. field_begins a.bytes.now (field_of s.bytes s.rows s.stride entry)) _ _ c.all.result c.all.ensures.ran
    (YieldsList-from_slice c.table.result cc)
    (λ x b q k. search (rules, tests))
    ∙ each_entry s.bytes s.rows s.stride c.table.result (c.table.ensures s.bytes s.rows s.stride) (field_begins a.bytes.now)
    ∙ sym (fields_decide s.bytes s.rows s.stride a.bytes.now (sym c.palette_begins.ensures ∙ c.if-palette_begins.true))

pub all-requires-clause-callable : goal.all-requires-clause-callable
all-requires-clause-callable c =
    let s = c.args.shape in
    let whole = c.table.ensures s.bytes s.rows s.stride in
    serves_from_places (YieldsList-from_slice c.table.result cc) (λ x q k. search rules)
    (λ x k low e. let within = entry-within s.bytes s.rows s.stride c.table.result whole x.now k low e in search (rules, within))
