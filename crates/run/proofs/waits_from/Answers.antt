-- `waits_from` meets its contract. Assumes nothing.
use Rattle.std.proofs.Common.{arith}
use Rattle.run.proofs.waits_from.Goals as goal

pub next_write_from-requires : goal.next_write_from-requires
next_write_from-requires c = (c.requires.0.within, omega (arith, c.requires.0.few), c.requires.1)

pub returns : goal.returns
returns c = (c.next_write_from.ensures.waits, c.next_write_from.ensures.small)
