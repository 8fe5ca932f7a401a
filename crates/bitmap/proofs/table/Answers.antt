-- The code's table is the definition's, field by field.
-- Assumes nothing.
use mathlib.Core.Path.{refl}
use Rattle.bitmap.proofs.table.Goals as goal

pub returns : goal.returns
returns c = λ b h s. refl
