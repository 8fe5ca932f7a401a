-- Each turn puts one step's line more. Assumes nothing.
use mathlib.Core.Path.{◌≡◌}
use mathlib.Core.List.{◌++◌}
use Prim.Native.Nat.{◌≤◌}
use lib.ListN.{length, drop}
use Rattle.panel.specs.Names.{panel_code}
use Rattle.settings.specs.Settings.{steps_of, rest_of}
use Rattle.listing.specs.Listing.{step_lines}
use Rattle.listing.proofs.put_steps.Given as goal

abbrev pub invariant-loop : goal.invariant-loop
invariant-loop l = (l.next ≤ length l.accepted.file.now)
    × (drop l.next l.accepted.file.now ≡ rest_of (panel_code l.accepted.plan.panel) l.counter (drop l.at l.accepted.file.now))
    × (l.page.items ≡ l.initial.page.items ++ step_lines (steps_of (panel_code l.accepted.plan.panel) l.counter (drop l.at l.accepted.file.now)))
