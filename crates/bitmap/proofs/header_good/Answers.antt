-- The closure asks the field of each entry of the table.
-- Assumes nothing.
use mathlib.Core.Path.{◌∙◌}
use Prim.Native.Nat.{◌+◌, ◌≤◌}
use native.Mathlib.Omega.{arith}
use lib.ListN.{length}
use borrow.Author.Rules.{rules}
use borrow.Author.Tests.{tests}
use Rattle.std.proofs.lemmas.Iterator.{YieldsList-from_slice}
use Rattle.std.proofs.lemmas.Iterator.Search.{all_from_yields_List}
use Rattle.std.proofs.lemmas.Iterator.Adapters.{serves_from_places}
use Rattle.bitmap.specs.Header.{field_good}
use Rattle.bitmap.specs.Table.{field_of}
use Rattle.bitmap.proofs.Fields.{entry-within, each_entry}
use Rattle.bitmap.proofs.header_good.Goals as goal

pub returns : goal.returns
returns c =
    let s = c.args.shape in
    let file = c.args.file.now in
    all_from_yields_List (λ entry. field_good file (field_of s.bytes s.rows s.stride entry)) _ _ c.all.result c.all.ensures.ran
    (YieldsList-from_slice c.table.result cc)
    (λ x b q k. search (rules, tests))
    ∙ each_entry s.bytes s.rows s.stride c.table.result (c.table.ensures s.bytes s.rows s.stride) (field_good file)

pub all-requires-clause-callable : goal.all-requires-clause-callable
all-requires-clause-callable c =
    let s = c.args.shape in
    let whole = c.table.ensures s.bytes s.rows s.stride in
    serves_from_places (YieldsList-from_slice c.table.result cc) (λ x q k. search rules)
    (λ x k low e.
    let within = entry-within s.bytes s.rows s.stride c.table.result whole x.now k low e in
    let fits : (field_of s.bytes s.rows s.stride x.now).at + (field_of s.bytes s.rows s.stride x.now).size ≤ length c.args.file.now =
    omega (arith, within.1, c.requires) in
    search (rules, within, fits))
