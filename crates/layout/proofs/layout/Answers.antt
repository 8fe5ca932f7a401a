-- Each refusal is one branch; then the list decides.
-- Assumes nothing.
use borrow.Author.Rules.{rules}
use Rattle.std.proofs.Common.{ap, ◌∙◌}
use mathlib.Core.Bool.{not}
use Rattle.lists.proofs.Rules.{refused, passed, here, past, none}
use Rattle.layout.proofs.Answer.{layout_refused, layout_placed, unnamed_lem, named_lem, rows_named, width_named}
use Rattle.layout.proofs.layout.Goals as goal

pub returns-in_err-panel : goal.returns-in_err-panel
returns-in_err-panel c =
    let a = c.args in
    search (rules, layout_refused a.panel a.list.now (here (ap not (unnamed_lem a.panel c.in_err-panel.ensures))))

pub returns-then-not-list_good : goal.returns-then-not-list_good
returns-then-not-list_good c =
    let a = c.args in
    layout_refused a.panel a.list.now
    (past (ap not (named_lem a.panel c.in_ok-panel.panel c.in_ok-panel.ensures)) (here (ap not (refused c.list_good.ensures (ap not c.if-not-list_good.true)))))

pub returns : goal.returns
returns c =
    let a = c.args in
    let named = c.in_ok-panel.ensures in
    let shape = c.shape-shape.result in
    c.leaves_on.ensures
    ∙ layout_placed a.panel a.list.now _ _
    (width_named a.panel c.in_ok-panel.panel named shape c.shape-shape.ensures) (rows_named a.panel c.in_ok-panel.panel named shape c.shape-shape.ensures)
    (past (ap not (named_lem a.panel c.in_ok-panel.panel named)) (past (ap not (passed c.list_good.ensures (ap not c.if-not-list_good.false))) none))
