-- 5, 6, or the painted region. Assumes nothing.
use mathlib.Core.Path.{◌≡◌, refl, ◌∙◌}
use native.Mathlib.Omega.{arith}
use borrow.Author.Rules.{rules}
use Rattle.panel.specs.Facts.{sizes}
use Rattle.refusal.specs.Numbers.{number_of, number_given}
use Rattle.refusal.proofs.Numbers.{number_some}
use Rattle.slots.proofs.Placed.{region_refused, region_accepted}
use Rattle.slots.proofs.place_region.Goals as goal

pub returns-in_err-check_region : goal.returns-in_err-check_region
returns-in_err-check_region c =
    let a = c.args in
    let r = a.region in
    let is : number_given c.from_residual.result ≡ number_of c.in_err-check_region.field-0.0 = search rules in
    region_refused (sizes a.shape) a.memory.now a.slot r.x r.y r.width r.height a.payload.now (is ∙ c.in_err-check_region.ensures)
    (λ z. absurd (omega (arith, is, number_some c.in_err-check_region.field-0.0)))

pub returns : goal.returns
returns c =
    let a = c.args in
    let r = a.region in
    region_accepted (sizes a.shape) a.memory.now a.slot r.x r.y r.width r.height a.payload.now c.in_ok-check_region.ensures refl c.paint_region.ensures
