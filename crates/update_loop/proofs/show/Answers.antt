-- A turn of the loop goes on by the answer of its poll, and each end is that of `shown`. Assumes nothing.
use Rattle.std.proofs.Common.{ℕ, ◌≡◌, ◌+◌, ◌-◌, ◌<◌, ◌∙◌, arith}
use Rattle.update_loop.specs.Loop.{enough, showing}
use Rattle.update_loop.proofs.Loop.{from_start_lem, no_poll_left, after_write_lem, after_line, after_wait, after_done_lem, after_refusal}
use Rattle.update_loop.proofs.show.Goals as goal
use Rattle.update_loop.proofs.show.Goals.{in-Write, in-Line, in-Wait}

pub returns-in-Done : goal.returns-in-Done
returns-in-Done c =
    let a = c.args in
    let l = c.loop-made in
    after_done_lem (enough - l.made) l.state l.tick l.memory l.bus l.at (omega arith) c.poll-polled.ensures c.in-Done.is
    ∙ l.invariant.3
    ∙ from_start_lem a.state a.memory.now a.bus.now c.start-started.ensures

pub returns-in-Refused : goal.returns-in-Refused
returns-in-Refused c =
    let a = c.args in
    let l = c.loop-made in
    after_refusal (enough - l.made) l.state l.tick l.memory l.bus l.at (omega arith) c.poll-polled.ensures c.in-Refused.field-0 c.in-Refused.is
    ∙ l.invariant.3
    ∙ from_start_lem a.state a.memory.now a.bus.now c.start-started.ensures

pub loop-made-preserved : goal.loop-made-preserved
loop-made-preserved c =
    let l = c.loop-made in
    let left : ℕ = enough - l.made in
    let some : 0 < left = omega arith in
    let fewer : enough - (l.made + 1) ≡ left - 1 = omega arith in
    let e = c.poll-polled.ensures in (
      omega arith,
      omega arith,
      elim c.match-answer.branch [ in-Write w ↦ omega arith | in-Line w ↦ omega arith | in-Wait w ↦ omega arith ],
      elim c.match-answer.branch [
        | in-Write w ↦
            rw fewer
            (after_write_lem left l.state l.tick l.memory l.bus l.at some e w.in-Write.n w.in-Write.is w.tick-is (w.at-is ∙ w.after-at.ensures.0)
            ∙ l.invariant.3)
        | in-Line w ↦
            rw fewer
            (after_line left l.state l.tick l.memory l.bus l.at some e w.in-Line.n w.in-Line.is w.tick-is (w.at-is ∙ w.after-at-in-Line.ensures.0)
            ∙ l.invariant.3)
        | in-Wait w ↦
            rw fewer
            (after_wait left l.state l.tick l.memory l.bus l.at some e w.in-Wait.ms w.in-Wait.is w.tick-is w.at-is
            ∙ l.invariant.3)
      ],
    )

pub returns : goal.returns
returns c =
    let a = c.args in
    let l = c.loop-made in
    no_poll_left (enough - l.made) (showing l.state l.tick l.memory l.bus l.at) (omega arith)
    ∙ l.invariant.3
    ∙ from_start_lem a.state a.memory.now a.bus.now c.start-started.ensures
