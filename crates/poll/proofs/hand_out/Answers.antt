-- `hand_out` meets its contract, place by place. Assumes nothing.
use mathlib.Core.Path.{sym, ap, ◌∙◌}
use Rattle.poll.specs.HandOut.{hand_out}
use Rattle.poll.proofs.Next.{start_place, stop_place, line_place}
use Rattle.poll.proofs.hand_out.Goals as goal

pub hand_start-requires : goal.hand_start-requires
hand_start-requires c =
    let entry = c in
    let a = entry.args in
    (start_place a.accepted.file.now a.run entry.requires.0.valid _ c.in-Start.is, entry.requires.1.slot_in, entry.requires.2)

pub hand_line-requires : goal.hand_line-requires
hand_line-requires c =
    let entry = c in
    let a = entry.args in
    (line_place a.accepted.file.now a.run entry.requires.0.valid _ _ _ entry.args.accepted.its.good c.in-Line.is, entry.requires.1.slot_in, entry.requires.2)

pub hand_stop-requires : goal.hand_stop-requires
hand_stop-requires c =
    let entry = c in
    let a = entry.args in
    (stop_place a.accepted.file.now a.run entry.requires.0.valid _ c.in-Stop.is, entry.requires.1, entry.requires.2)

pub returns-in-Start : goal.returns-in-Start
returns-in-Start c =
    let entry = c in
    c.hand_start.ensures ∙ sym (ap (hand_out entry.args.accepted.file.now entry.args.run entry.args.reading.tick entry.args.reading.moment entry.args.memory.now entry.args.out.now) c.in-Start.is)

pub returns-in-Line : goal.returns-in-Line
returns-in-Line c =
    let entry = c in
    c.hand_line.ensures ∙ sym (ap (hand_out entry.args.accepted.file.now entry.args.run entry.args.reading.tick entry.args.reading.moment entry.args.memory.now entry.args.out.now) c.in-Line.is)

pub returns-in-Stop : goal.returns-in-Stop
returns-in-Stop c =
    let entry = c in
    c.hand_stop.ensures ∙ sym (ap (hand_out entry.args.accepted.file.now entry.args.run entry.args.reading.tick entry.args.reading.moment entry.args.memory.now entry.args.out.now) c.in-Stop.is)
