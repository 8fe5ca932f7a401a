-- `hand_stop` meets its contract, with a write left and with none. Assumes nothing.
use mathlib.Core.Path.{◌∙◌}
use native.Mathlib.Omega.{arith}
use lib.ListN.{drop}
use Rattle.panel.specs.Names.{panel_code}
use Rattle.poll.proofs.Next.{place-few, stop-done, stop_write}
use Rattle.poll.proofs.hand_stop.Goals as goal

pub next_write_from-found-requires : goal.next_write_from-found-requires
next_write_from-found-requires c =
    let r = c.args.accepted.its.stop.readable in
    (r.within, omega (arith, r.few), omega (arith, c.requires.0, c.args.accepted.its.stop.count_is))

pub show_slot-requires : goal.show_slot-requires
show_slot-requires c = (c.requires.1.low, c.requires.1.slot_in)

pub returns-in_default : goal.returns-in_default
returns-in_default c =
    let entry = c in
    let a = entry.args in
    stop-done a.accepted.file.now a.run a.reading.tick a.reading.moment a.memory.now a.out.now entry.args.accepted.its a.k (rw c.in_default.is at c.next_write_from-found.ensures.write) c.show_slot.ensures

pub overflow_sub-next-2 : goal.overflow_sub-next-2
overflow_sub-next-2 c =
    let a = c.args in
    let here = rw c.in-Some.is at c.next_write_from-found.ensures.write in
    omega (arith, place-few (panel_code a.accepted.plan.panel) a.accepted.file.now a.accepted.plan.stop.count a.k (drop a.accepted.plan.stop.at a.accepted.file.now) here)

pub overflow_cast-next : goal.overflow_cast-next
overflow_cast-next c = omega (arith, c.args.accepted.its.stop.readable.few)

pub hand_write-requires : goal.hand_write-requires
hand_write-requires c =
    let here = rw c.in-Some.is at c.next_write_from-found.ensures.write in
    (here.within, c.requires.2)

pub returns : goal.returns
returns c =
    let entry = c in
    let a = entry.args in
    c.hand_write.ensures a.memory.now ∙ stop_write a.accepted.file.now a.run a.reading.tick a.reading.moment a.memory.now a.out.now entry.args.accepted.its a.k c.in-Some.place (rw c.in-Some.is at c.next_write_from-found.ensures.write)
