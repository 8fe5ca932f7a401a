-- The one refusal, or the header.
-- Assumes nothing.
use mathlib.Core.Path.{sym}
use borrow.Author.Rules.{rules}
use Rattle.hall_display.proofs.Panels.{shown}
use Rattle.hall_display.proofs.Upload.{made_refused, made_bytes}
use Rattle.hall_display.proofs.make_header.Goals as goal

pub returns-in_err-display : goal.returns-in_err-display
returns-in_err-display c = search (rules, made_refused c.args.panel c.args.depth c.in_err-display.ensures.1)

pub returns : goal.returns
returns c =
    let a = c.args in
    let s = c.in_ok-display.ensures in
    rw (c.header.ensures, s.panel-is, s.depth_is) (sym (made_bytes a.panel a.depth (shown a.panel a.depth c.in_ok-display.display s)))
