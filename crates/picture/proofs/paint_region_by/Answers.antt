-- The slot is lent to `paint_rows` as a part of the memory, and comes back painted: `region_painted`.
-- Assumes nothing.
use Rattle.picture.proofs.Regions.{region_painted}
use Rattle.picture.proofs.paint_region_by.Goals as goal

pub returns : goal.returns
returns g c =
    let a = c.args in
    let region = a.region in
    region_painted a.shape.bytes a.shape.rows a.shape.some a.memory.now a.slot region.x region.y region.width region.height a.payload.now _
    c.paint_rows.ensures
