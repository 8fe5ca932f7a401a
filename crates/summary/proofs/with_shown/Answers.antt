-- The summary that is read is stored.
-- Assumes nothing.
use mathlib.Core.Path.{ap, ◌∙◌}
use lib.ListN.{set}
use Rattle.summary.proofs.with_shown.Goals as goal

pub returns : goal.returns
returns c =
    c.with_summary.ensures ∙ ap (set c.args.summaries 0) c.summary_at.ensures
