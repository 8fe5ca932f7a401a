-- The chunk is laid after the bytes that are kept, as far as the header goes.
-- Assumes nothing.
use mathlib.Core.Path.{◌∙◌}
use native.Mathlib.Omega.{arith}
use borrow.Author.Rules.{rules}
use Rattle.fill_calls.proofs.Calls.{header_goes}
use Rattle.fill_calls.proofs.header_goes_on.Goals as goal

pub returns : goal.returns
returns c =
    let a = c.args in
    let s = a.shape in
    c.header_begins.ensures
    ∙ header_goes s.bytes s.rows s.stride a.fill.kept a.chunk.now a.fill.came c.min-n.result _ (search (rules, c.well_formed)) (omega arith) c.min-n.ensures c.put_at.ensures
