-- `step_size`: what it reads from index `at` on is the beginning of the file's rest there. Assumes nothing.
use mathlib.Core.Path.{ap, ◌∙◌}
use Prim.Native.Nat.{ℕ}
use native.Mathlib.Omega.{arith}
use Rattle.panel.specs.Names.{panel_code}
use Rattle.settings.specs.Settings.{wait_of}
use Rattle.settings.specs.Facts.{size_found}
use Rattle.settings.proofs.Decode.{short_step, write_step, wait_step, no_step}
use Rattle.settings.proofs.step_size.Goals as goal

pub returns-then-file-at-lt3 : goal.returns-then-file-at-lt3
returns-then-file-at-lt3 c = short_step (panel_code c.args.panel) c.args.file.now c.args.at c.if-file-at-lt3.true

pub returns-in-87 : goal.returns-in-87
returns-in-87 c =
    let a = c.args in
    write_step (panel_code a.panel) a.file.now a.at (omega arith) _ c.in-87.is c.write_size.ensures

pub returns-in-68 : goal.returns-in-68
returns-in-68 c =
    let a = c.args in
    wait_step (panel_code a.panel) a.file.now a.at (omega arith) _ (omega arith) c.in-68.is
    (c.wait_size.ensures ∙ ap (λ (ms : ℕ). size_found (wait_of ms)) c.from_be_bytes.ensures)

pub returns-in_default : goal.returns-in_default
returns-in_default c =
    let a = c.args in
    no_step (panel_code a.panel) a.file.now a.at (omega arith) (omega arith) (omega arith)
