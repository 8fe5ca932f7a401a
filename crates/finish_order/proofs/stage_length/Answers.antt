-- Four things a repeat.
-- Assumes nothing.
use Rattle.std.proofs.Common.{arith}
use Rattle.finish_order.proofs.Order.{stage-length}
use Rattle.finish_order.proofs.stage_length.Goals as goal

pub returns : goal.returns
returns c = let a = c.args in (omega (arith, stage-length a.otp.now a.at), omega arith)
