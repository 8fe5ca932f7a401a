-- Each summary up to that of slot n is asked.
-- Assumes nothing.
use Rattle.std.proofs.Common.{rules, tests, ◌+◌, ◌∙◌, take, arith}
use Rattle.std.proofs.lemmas.Iterator.{YieldsList-from_slice}
use Rattle.std.proofs.lemmas.Iterator.Search.{all_from_yields_List}
use Rattle.summary.specs.Conditions.{summary_good}
use Rattle.summary.proofs.Conditions.{all_good}
use Rattle.summary_conditions.proofs.summaries_good.Goals as goal

pub returns : goal.returns
returns c =
    let a = c.args in
    all_from_yields_List (summary_good a.shape.bytes a.shape.rows) _ _ _ c.all.ensures.ran (YieldsList-from_slice (take (a.n + 1) a.summaries) cc) (λ x b q k. search (rules, tests))
    ∙ all_good a.shape.bytes a.shape.rows a.summaries a.n (omega arith)
