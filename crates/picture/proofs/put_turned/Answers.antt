-- The bytes that row y becomes, turned over by `turn_at`.
-- Assumes nothing.
use Rattle.picture.proofs.Slots.{row_turned}
use Rattle.picture.proofs.put_turned.Goals as goal

pub returns : goal.returns
returns c =
    let a = c.args in
    row_turned a.shape.bytes a.shape.rows a.raw.now a.y a.rows.now a.at _ c.turn_at.ensures
