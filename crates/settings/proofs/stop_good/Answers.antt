-- `stop_good`: where all stop steps were passed, the file is good just when they end with it. Assumes nothing.
use mathlib.Core.Path.{◌≡◌, sym, ◌∙◌}
use Prim.Native.Nat.{◌+◌}
use native.Mathlib.Omega.{arith}
use lib.ListN.{get_or}
use Rattle.std.specs.Prelude.{Ok}
use Rattle.settings.specs.Settings.{panel_of}
use Rattle.settings.specs.Facts.{StepsPassed}
use Rattle.settings.proofs.Sections.{no_section, stop_rules}
use Rattle.settings.proofs.stop_good.Goals as goal

pub returns-in_default : goal.returns-in_default
returns-in_default c = sym (no_section c.requires.1 c.in_default.ensures.lookup.3)

pub returns-in-Ok : goal.returns-in-Ok
returns-in-Ok c =
    let file = c.args.file.now in
    let n : c.from.result ≡ get_or file c.args.stop 0 = c.from.ensures ∙ c.in-Some.ensures.lookup.3.1 0 in
    let passed : StepsPassed (panel_of file) (get_or file c.args.stop 0) (c.args.stop + 1) file (Ok c.in-Ok.passed) =
    rw (c.panel_of.ensures, n) at c.in-Ok.ensures in
    stop_rules c.requires.1 passed.passed.ends c.in-Some.ensures.lookup.3.0 (omega arith) (sym passed.good)
