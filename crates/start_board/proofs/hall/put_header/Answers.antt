-- The two refusals, or the header laid over the output's front.
-- Assumes nothing.
use borrow.Author.Rules.{rules}
use Rattle.start_board.proofs.HallWords.{header_refused, header_short, header_given}
use Rattle.start_board.proofs.hall.put_header.Goals as goal

pub returns-in_err-header : goal.returns-in_err-header
returns-in_err-header c =
    let a = c.args in
    search (rules, header_refused a.panel a.depth a.out.now c.in_err-header.field-0.0 c.in_err-header.ensures)

pub returns-then-out-lt16 : goal.returns-then-out-lt16
returns-then-out-lt16 c =
    let a = c.args in
    header_short a.panel a.depth a.out.now c.in_ok-header.header c.in_ok-header.ensures c.if-out-lt16.true

pub returns : goal.returns
returns c =
    let a = c.args in
    header_given a.panel a.depth a.out.now c.in_ok-header.header c.in_ok-header.ensures c.if-out-lt16.false c.put_at.ensures
