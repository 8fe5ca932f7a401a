-- A chunk with which a good file goes on fits.
-- Assumes nothing.
use mathlib.Core.Path.{ap}
use mathlib.Core.Bool.{not}
use Rattle.lists.proofs.Rules.{passed}
use Rattle.fill_calls.proofs.Calls.{goes_fits}
use Rattle.fill_calls.proofs.feed.Goals as goal

pub take_bytes-requires : goal.take_bytes-requires
take_bytes-requires c =
    let s = c.args.shape in (
      c.requires,
      goes_fits s.bytes s.rows s.stride c.args.fill c.args.chunk.now (passed c.goes_on.ensures (ap not c.if-not-goes_on.false)),
    )
