-- An empty input has no panel.
-- Assumes nothing.
use Rattle.std.proofs.Common.{ap, refl, ◌∙◌}
use Rattle.lists.proofs.Rules.{here}
use Rattle.layout.proofs.Answer.{layout_refused}
use Rattle.layout_list.proofs.Lines.{drawn, text_none, text_some}
use Rattle.layout_list.specs.Text.{answer_text}
use Rattle.layout_list.proofs.page_for.Goals as goal

pub returns-in_default : goal.returns-in_default
returns-in_default c =
    c.page_of.ensures ∙ ap answer_text (layout_refused 256 c.args.input.now (here refl)) ∙ text_none c.args.input.now c.in_default.ensures.cases

pub page_of-requires-2 : goal.page_of-requires-2
page_of-requires-2 c = drawn _ _ c.layout.result c.layout.ensures

pub returns : goal.returns
returns c =
    let list = c.in-Some.list.now in
    c.page_of-2.ensures ∙ ap answer_text c.layout.ensures
    ∙ text_some c.args.input.now c.from.result list (rw c.from.ensures c.in-Some.ensures.cases.0)
