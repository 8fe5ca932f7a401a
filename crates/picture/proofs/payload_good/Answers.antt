-- A payload of another length is refused; of the right length, its rows decide.
-- Assumes nothing.
use mathlib.Core.Path.{◌∙◌}
use borrow.Author.Tests.{ne_eqb}
use Rattle.picture.proofs.Regions.{payload_short, payload_rows}
use Rattle.picture.proofs.payload_good.Goals as goal

pub returns-then-payload-region : goal.returns-then-payload-region
returns-then-payload-region c =
    let region = c.args.region in
    c.rows_clear.ensures ∙ payload_rows region.width region.height c.args.payload.now (rw c.row_bytes.ensures at c.if-payload-region.true)

pub returns-else-payload-region : goal.returns-else-payload-region
returns-else-payload-region c =
    let region = c.args.region in
    ne_eqb _ _ c.if-payload-region.false ∙ payload_short region.width region.height c.args.payload.now (rw c.row_bytes.ensures at c.if-payload-region.false)
