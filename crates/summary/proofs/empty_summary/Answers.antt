-- 0 and none.
-- Assumes nothing.
use mathlib.Core.Path.{refl}
use Rattle.summary.proofs.empty_summary.Goals as goal

pub returns : goal.returns
returns c = refl
