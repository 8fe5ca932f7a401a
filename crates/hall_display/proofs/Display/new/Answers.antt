-- The panel first, then the depth.
-- Assumes nothing.
use borrow.Author.Rules.{rules}
use Rattle.hall_display.proofs.Panels.{no_panel, no_depth}
use Rattle.hall_display.proofs.Display.new.Goals as goal

pub returns-in_err-try_from : goal.returns-in_err-try_from
returns-in_err-try_from c = search (rules, no_panel c.args.panel c.args.depth c.in_err-try_from.ensures.1)

pub returns-in_err-try_from-2 : goal.returns-in_err-try_from-2
returns-in_err-try_from-2 c = search (rules, no_depth c.args.panel c.args.depth c.in_err-try_from-2.ensures.1)
