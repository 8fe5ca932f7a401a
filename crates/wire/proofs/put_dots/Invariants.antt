-- Each turn writes one byte more.
-- Assumes nothing.
use mathlib.Core.Bool.{not}
use lib.Dec.{eqb}
use mathlib.Core.Path.{◌≡◌}
use Prim.Native.Nat.{◌*◌}
use lib.ListN.{length}
use Rattle.lists.specs.Lists.{tabulate, overlay_at}
use Rattle.panel.specs.Codes.{code_by}
use Rattle.panel.specs.Dots.{row_dot}
use Rattle.wire.specs.Line.{dots_byte}
use Rattle.wire.proofs.put_dots.Given as goal

abbrev pub invariant-loop-k : goal.invariant-loop-k
invariant-loop-k g l = (length l.out ≡ length l.initial.out)
    × (l.out ≡ overlay_at l.at (tabulate l.k (dots_byte (not (eqb g.row.ODD 0)) (8 * length l.row) (λ x. code_by l.codes.white l.codes.black (row_dot l.row x)))) l.initial.out)
