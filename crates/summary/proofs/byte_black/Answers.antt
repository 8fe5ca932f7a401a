-- The bits that are not set.
-- Assumes nothing.
use mathlib.Core.Path.{◌∙◌}
use native.Mathlib.Omega.{arith}
use Rattle.summary.proofs.Bytes.{byte_zeros}
use Rattle.summary.proofs.byte_black.Goals as goal

pub returns : goal.returns
returns c = c.count_zeros.ensures.value ∙ byte_zeros c.args.byte (omega arith)
