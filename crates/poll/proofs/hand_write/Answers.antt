-- `hand_write` meets its contract. Assumes nothing.
use Rattle.panel.specs.Names.{panel_code}
use Rattle.poll.proofs.Next.{write_out}
use Rattle.poll.proofs.hand_write.Goals as goal

pub returns : goal.returns
returns c =
    let a = c.args in
    write_out a.accepted.file.now a.run a.reading.tick a.reading.moment a.out.now (panel_code a.accepted.plan.panel) a.at a.next c.put_step-len.ensures c.go_on.ensures
