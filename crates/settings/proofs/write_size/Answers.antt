-- `write_size`: no such register, too few bytes, foreign data, or a write. Assumes nothing.
use mathlib.Core.Path.{◌≡◌, refl, ap, ◌∙◌}
use mathlib.Core.Bool.{Bool, true, false}
use Prim.Native.Nat.{ℕ}
use native.Mathlib.Omega.{arith}
use Rattle.std.specs.Prelude.{Option, Some, None}
use Rattle.std.specs.Bool.{then_some}
use Rattle.panel.specs.Names.{panel_code}
use Rattle.settings.proofs.Decode.{no_such_register, short_data, good_data, foreign_data}
use Rattle.settings.proofs.write_size.Goals as goal
use Rattle.settings.proofs.write_size.Goals.{then-size-eq2-via-then-size-eq2, then-size-eq2-via-else-size-eq2+then-file-at}

picked : (good : Bool) {z : ℕ} {r : Option ℕ} → (good ≡ true → Some z ≡ r) → (good ≡ false → None ≡ r) → then_some good z ≡ r
picked true y n = y refl
picked false y n = n refl

pub returns-then-size-eq2 : goal.returns-then-size-eq2
returns-then-size-eq2 c =
    let a = c.args in
    elim c.then-size-eq2.branch [
      | then-size-eq2-via-then-size-eq2 w ↦ no_such_register (panel_code a.panel) a.register a.file.now a.at (omega arith)
      | then-size-eq2-via-else-size-eq2+then-file-at w ↦ short_data (panel_code a.panel) a.register a.file.now a.at (omega arith)
    ]

pub returns : goal.returns
returns c =
    let a = c.args in
    c.then_some.ensures
    ∙ picked c.data_good.result
    (λ e. ap Some c.size-size.ensures ∙ good_data (panel_code a.panel) a.register a.file.now a.at (omega arith) (omega arith) _ c.data_good.ensures e)
    (λ e. foreign_data (panel_code a.panel) a.register a.file.now a.at (omega arith) (omega arith) _ c.data_good.ensures e)
