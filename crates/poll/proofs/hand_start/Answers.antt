-- `hand_start` meets its contract, with a write left and with none. Assumes nothing.
use mathlib.Core.Path.{◌∙◌}
use native.Mathlib.Omega.{arith}
use lib.ListN.{drop}
use Rattle.panel.specs.Names.{panel_code}
use Rattle.poll.proofs.Next.{place-few, start-line, start_write, first_line_lem}
use Rattle.poll.proofs.hand_start.Goals as goal

pub next_write_from-found-requires : goal.next_write_from-found-requires
next_write_from-found-requires c =
    let r = c.args.accepted.its.start.readable in
    (r.within, omega (arith, r.few), omega (arith, c.requires.0, c.args.accepted.its.start.count_is))

pub hand_line-requires : goal.hand_line-requires
hand_line-requires c = (first_line_lem _ c.args.accepted.its.good, c.requires.1, c.requires.2)

pub returns-in_default : goal.returns-in_default
returns-in_default c =
    let entry = c in
    let a = entry.args in
    c.hand_line.ensures ∙ start-line a.accepted.file.now a.run a.reading.tick a.reading.moment a.memory.now a.out.now entry.args.accepted.its a.k (rw c.in_default.is at c.next_write_from-found.ensures.write)

pub overflow_sub-next-2 : goal.overflow_sub-next-2
overflow_sub-next-2 c =
    let a = c.args in
    let here = rw c.in-Some.is at c.next_write_from-found.ensures.write in
    omega (arith, place-few (panel_code a.accepted.plan.panel) a.accepted.file.now a.accepted.plan.start.count a.k (drop a.accepted.plan.start.at a.accepted.file.now) here)

pub overflow_cast-next : goal.overflow_cast-next
overflow_cast-next c = omega (arith, c.args.accepted.its.start.readable.few)

pub hand_write-requires : goal.hand_write-requires
hand_write-requires c =
    let here = rw c.in-Some.is at c.next_write_from-found.ensures.write in
    (here.within, c.requires.2)

pub returns : goal.returns
returns c =
    let entry = c in
    let a = entry.args in
    c.hand_write.ensures a.memory.now ∙ start_write a.accepted.file.now a.run a.reading.tick a.reading.moment a.memory.now a.out.now entry.args.accepted.its a.k c.in-Some.place (rw c.in-Some.is at c.next_write_from-found.ensures.write)
