-- Refused by its number, or painted in the given way.
-- Assumes nothing.
use mathlib.Core.Path.{◌≡◌, refl, sym, ap, ◌∙◌}
use Prim.Native.Nat.{◌*◌}
use native.Mathlib.Omega.{arith}
use borrow.Author.Rules.{rules}
use Rattle.panel.specs.Panels.{Sizes, shape_of}
use Rattle.panel.specs.Facts.{sizes}
use Rattle.panel.specs.declared.sizes.Shape.{Shape}
use Rattle.std.proofs.Common.{Err}
use Rattle.refusal.proofs.Numbers.{number_some}
use Rattle.by_dots.proofs.Regions.{refusal_1, refusal_region, region_refused, region_painted}
use Rattle.by_dots.proofs.paint.Goals as goal

-- the sizes of the 2.7" panel
module _ (shape : Shape) (is : sizes shape ≡ shape_of 2) where
  rows_are : shape.rows ≡ 176
  rows_are = ap (λ (s : Sizes). s.rows) is

  bytes_are : shape.bytes ≡ 33
  bytes_are = ap (λ (s : Sizes). s.bytes) is

  whole : shape.rows * shape.bytes ≡ 176 * 33
  whole = rw (rows_are, bytes_are)

pub returns-then-picture-shape : goal.returns-then-picture-shape
returns-then-picture-shape g c =
    let a = c.args in
    let region = a.region in
    region_refused region.x region.y region.width region.height a.payload.now a.picture.now 1
    (refusal_1 region.x region.y region.width region.height a.payload.now a.picture.now (λ e. c.if-picture-shape.true (e ∙ sym (whole c.shape-shape.result c.shape-shape.ensures))))
    (λ z. omega arith)

pub returns-in_err-check_region : goal.returns-in_err-check_region
returns-in_err-check_region g c =
    let a = c.args in
    let region = a.region in
    let h = rows_are c.shape-shape.result c.shape-shape.ensures in
    let b = bytes_are c.shape-shape.result c.shape-shape.ensures in
    let is : c.from_residual.result ≡ Err c.in_err-check_region.field-0.0 = search rules in
    rw is
    (region_refused region.x region.y region.width region.height a.payload.now a.picture.now _
    (refusal_region region.x region.y region.width region.height a.payload.now a.picture.now (c.if-picture-shape.false ∙ whole c.shape-shape.result c.shape-shape.ensures) _
    (rw (b, h) at c.in_err-check_region.ensures))
    (λ z. omega (arith, number_some c.in_err-check_region.field-0.0)))

pub returns : goal.returns
returns g c =
    let a = c.args in
    let region = a.region in
    let h = rows_are c.shape-shape.result c.shape-shape.ensures in
    let b = bytes_are c.shape-shape.result c.shape-shape.ensures in
    region_painted region.x region.y region.width region.height a.payload.now a.picture.now 0
    (refusal_region region.x region.y region.width region.height a.payload.now a.picture.now (c.if-picture-shape.false ∙ whole c.shape-shape.result c.shape-shape.ensures) 0
    (rw (b, h) at c.in_ok-check_region.ensures))
    refl _ (rw (b, h) at c.paint_region_by.ensures)
