-- Nothing is written where the byte stays.
-- Assumes nothing.
use mathlib.Core.Path.{◌≡◌, ap}
use native.Mathlib.Omega.{arith}
use lib.ListN.{length, get_or}
use Prim.Native.Nat.{◌/◌, ◌%◌}
use Rattle.lists.proofs.Lists.{overlay_at_none}
use Rattle.mend.specs.Facts.{entry_bytes}
use Rattle.mend.proofs.Changes.{no_entry, one_entry}
use Rattle.mend.proofs.put_change.Goals as goal

pub returns-then-new-old : goal.returns-then-new-old
returns-then-new-old c =
    let a = c.args in
    let e = no_entry a.k a.old a.new c.if-new-old.true in
    (omega (arith, ap length e), rw e (overlay_at_none a.at a.list.now))

pub put_at-requires : goal.put_at-requires
put_at-requires c =
    let a = c.args in
    let e : length (entry_bytes a.k a.old a.new) ≡ 4 = ap length (one_entry a.k a.old a.new c.if-new-old.false) in
    omega arith

pub returns : goal.returns
returns c =
    let a = c.args in
    let e = one_entry a.k a.old a.new c.if-new-old.false in
    let high : get_or c.to_be_bytes.result 0 0 ≡ a.k / 256 = rw c.to_be_bytes.ensures (omega arith) in
    let low : get_or c.to_be_bytes.result 1 0 ≡ a.k % 256 = rw c.to_be_bytes.ensures (omega arith) in
    (omega (arith, ap length e), rw e (rw (high, low) at c.put_at.ensures))
