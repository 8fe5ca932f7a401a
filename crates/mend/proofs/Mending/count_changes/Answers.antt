-- The indexes whose byte changes, counted.
-- Assumes nothing.
use Rattle.std.proofs.Common.{rules, tests, arith, ◌∙◌, length}
use Rattle.std.proofs.lemmas.Iterator.{YieldsList-from_range}
use Rattle.std.proofs.lemmas.Iterator.Consumers.{YieldsList-from_filter, count_from_yields_List}
use Rattle.mend.specs.Facts.{byte_in}
use Rattle.mend.proofs.Counted.{differs, counted}
use Rattle.mend.proofs.Mending.count_changes.Goals as goal

pub returns : goal.returns
returns c =
    let m = c.args.self.now in
    let n = length m.file.now in
    let ran = YieldsList-from_range 0 n n c.filter.ensures.source (omega arith) in
    count_from_yields_List c.filter.result c.count.result c.count.ensures.ran
    (YieldsList-from_filter _ (differs m.file.now (byte_in m)) ran c.filter.ensures.closure (λ x b q d. search (rules, tests)))
    ∙ counted m.file.now (byte_in m) n
