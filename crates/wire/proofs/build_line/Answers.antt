-- The refusals in their order, and the line where none applies.
-- Assumes nothing.
use borrow.Author.Rules.{rules}
use mathlib.Core.Path.{sym, ◌∙◌}
use native.Mathlib.Omega.{arith}
use lib.ListN.{length}
use Rattle.wire.proofs.Builder.{unnamed_lem, named_lem, rows_named, out_of_range, too_short_lem, built}
use Rattle.wire.proofs.build_line.Goals as goal

pub returns-in_err-panel : goal.returns-in_err-panel
returns-in_err-panel c =
    let a = c.args in
    search (rules, out_of_range a.panel a.stage a.y a.row.now a.out.now (unnamed_lem _ _ _ _ c.in_err-panel.ensures))

pub returns-then-not-in_range : goal.returns-then-not-in_range
returns-then-not-in_range c =
    let a = c.args in
    let e = c.in_range.ensures ∙ named_lem a.panel a.stage a.y (length a.row.now) _ c.shape-shape.result c.in_ok-panel.ensures c.shape-shape.ensures in
    out_of_range a.panel a.stage a.y a.row.now a.out.now (sym e ∙ c.if-not-in_range.true)

pub returns-then-out-row : goal.returns-then-out-row
returns-then-out-row c =
    let a = c.args in
    let e = c.in_range.ensures ∙ named_lem a.panel a.stage a.y (length a.row.now) _ c.shape-shape.result c.in_ok-panel.ensures c.shape-shape.ensures in
    let r = rows_named a.panel a.stage a.y (length a.row.now) _ c.shape-shape.result c.in_ok-panel.ensures c.shape-shape.ensures in
    too_short_lem a.panel a.stage a.y a.row.now a.out.now _ (sym e ∙ c.if-not-in_range.false) r (omega arith)

pub returns : goal.returns
returns c =
    let a = c.args in
    let e = c.in_range.ensures ∙ named_lem a.panel a.stage a.y (length a.row.now) _ c.shape-shape.result c.in_ok-panel.ensures c.shape-shape.ensures in
    let r = rows_named a.panel a.stage a.y (length a.row.now) _ c.shape-shape.result c.in_ok-panel.ensures c.shape-shape.ensures in
    built a.panel a.stage a.y a.row.now a.out.now _ (sym e ∙ c.if-not-in_range.false) r _ (omega arith) c.put_line.ensures
