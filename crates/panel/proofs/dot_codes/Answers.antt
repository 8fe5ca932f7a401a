use mathlib.Core.Path.{refl}
use Rattle.panel.proofs.Codes.{white_lt, black_lt}
use Rattle.panel.proofs.dot_codes.Goals as goal

pub returns : goal.returns
returns c = (refl, white_lt c.args.stage, black_lt c.args.stage)
