-- The bytes of row y, copied by `put_at`.
-- Assumes nothing.
use Rattle.picture.proofs.Slots.{row_copied}
use Rattle.picture.proofs.copy_row.Goals as goal

pub returns : goal.returns
returns c =
    let a = c.args in
    row_copied a.shape.bytes a.shape.rows a.raw.now a.y a.at a.out.now _ c.put_at.ensures
