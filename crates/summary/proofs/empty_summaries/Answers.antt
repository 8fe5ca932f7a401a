-- Every place has the empty summary.
-- Assumes nothing.
use Rattle.summary.proofs.empty_summaries.Goals as goal

pub returns : goal.returns
returns c = rw c.empty_summary-empty.ensures
