-- The slot's bytes are lent and counted.
-- Assumes nothing.
use mathlib.Core.Path.{ap, ◌∙◌}
use Rattle.picture.proofs.Slots.{lent_picture}
use Rattle.summary.specs.Summaries.{summary_of}
use Rattle.summary.proofs.fresh_count.Goals as goal

pub returns : goal.returns
returns c =
    let a = c.args in
    c.summary_of.ensures ∙ ap (summary_of a.shape.bytes a.shape.rows) (lent_picture a.shape.bytes a.shape.rows a.memory.now a.slot)
