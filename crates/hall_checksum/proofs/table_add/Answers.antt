-- The entry, by the table that is lent.
-- Assumes nothing.
use Rattle.hall_checksum.proofs.table_add.Goals as goal

pub returns : goal.returns
returns c = rw (c.from-2.ensures, c.from.ensures, c.requires)
