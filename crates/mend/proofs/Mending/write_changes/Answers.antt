-- There is room for a change where there is room for all, and it is written after the ones before it.
-- Assumes nothing.
use native.Mathlib.Omega.{arith}
use lib.ListN.{length}
use Rattle.mend.specs.Facts.{byte_in}
use Rattle.mend.proofs.Changes.{entry_room, list_more, at_more}
use Rattle.mend.proofs.Mending.write_changes.Goals as goal

pub put_change-at-requires : goal.put_change-at-requires
put_change-at-requires c =
    let m = c.args.self.now in
    let l = c.loop-k in
    let room = entry_room m.file.now (byte_in m) l.k (length m.file.now) (length c.args.list.now) l.at _ (omega arith) c.requires.1
    c.byte.ensures l.invariant.1 in
    (omega arith, omega arith)

pub loop-k-preserved : goal.loop-k-preserved
loop-k-preserved c =
    let m = c.args.self.now in
    let l = c.loop-k in
    let room = entry_room m.file.now (byte_in m) l.k (length m.file.now) (length c.args.list.now) l.at _ (omega arith) c.requires.1
    c.byte.ensures l.invariant.1 in (
      omega arith,
      at_more m.file.now (byte_in m) l.k l.at _ _ c.byte.ensures l.invariant.1 c.put_change-at.ensures.0,
      list_more m.file.now (byte_in m) c.args.list.now l.list _ l.k l.at _ c.byte.ensures l.invariant.1 l.invariant.2
          c.put_change-at.ensures.1 (omega arith),
    )
