-- The refusals by their number, then by the length of the data.
-- Assumes nothing.
use native.Mathlib.Omega.{arith}
use borrow.Author.Rules.{rules}
use Rattle.hall_display.proofs.Upload.{upload_refused, no_more, upload_short, upload_given}
use Rattle.hall_display.proofs.upload_command.Goals as goal

pub returns-in_err-display : goal.returns-in_err-display
returns-in_err-display c =
    let a = c.args in
    search (rules, upload_refused a.panel a.depth a.image.now a.slot a.number a.out.now c.in_err-display.field-0.0 c.in_err-display.ensures.number)

pub returns-then-n-eq0 : goal.returns-then-n-eq0
returns-then-n-eq0 c =
    let a = c.args in
    no_more a.panel a.depth a.image.now a.slot a.number a.out.now c.in_ok-display.ensures.number {n = c.min-n.result} (omega arith) c.if-n-eq0.true

pub returns-then-out-n : goal.returns-then-out-n
returns-then-out-n c =
    let a = c.args in
    upload_short a.panel a.depth a.image.now a.slot a.number a.out.now c.in_ok-display.ensures.number {n = c.min-n.result} (omega arith) c.if-n-eq0.false
    c.if-out-n.true

pub returns : goal.returns
returns c =
    let a = c.args in
    let s = c.in_ok-display.ensures.shows in
    upload_given a.panel a.depth a.image.now a.slot a.number a.out.now c.in_ok-display.ensures.number {n = c.min-n.result} (omega arith) c.if-n-eq0.false
    c.if-out-n.false c.put_at.ensures (rw (s.panel-is, s.depth_is) at c.put_data.ensures)
