-- `pass_steps`: what is known of the steps that were passed. Assumes nothing.
use mathlib.Core.Path.{◌≡◌}
use mathlib.Core.Bool.{false}
use Prim.Native.Nat.{◌-◌}
use lib.ListN.{length, get_or}
use Rattle.panel.specs.Names.{panel_code}
use Rattle.settings.proofs.Steps.{Passing}
use Rattle.settings.proofs.pass_steps.Given as goal

abbrev pub invariant-loop : goal.invariant-loop
invariant-loop l = (length l.written ≡ 10)
    × Passing (panel_code l.panel) l.n l.at l.file (l.n - l.counter) l.end (get_or l.written 0x01 false) (get_or l.written 0x04 false)
