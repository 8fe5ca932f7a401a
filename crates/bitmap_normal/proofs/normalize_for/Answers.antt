-- The panel's sizes, and a room that is large enough for each.
-- Assumes nothing.
use mathlib.Core.Path.{◌≡◌, ap}
use native.Mathlib.Omega.{arith}
use Rattle.panel.specs.Panels.{Sizes, row_bytes_of, rows_of, stride_of}
use Rattle.panel.specs.Names.{panel_code}
use Rattle.bitmap.proofs.Check.{rows-small}
use Rattle.bitmap_normal.proofs.Normal.{normalized-le}
use Rattle.bitmap_normal.proofs.normalize_for.Goals as goal

pub returns : goal.returns
returns c =
    let a = c.args in
    let s = c.shape-shape.result in
    let p = panel_code a.panel in
    let are = c.shape-shape.ensures in
    let wide : s.bytes ≡ row_bytes_of p = ap (λ (z : Sizes). z.bytes) are in
    let high : s.rows ≡ rows_of p = ap (λ (z : Sizes). z.rows) are in
    let apart : s.stride ≡ stride_of p = ap (λ (z : Sizes). z.stride) are in (
      normalized-le s.bytes s.rows s.stride a.file.now a.out.now _ _ 6398 (omega (arith, rows-small s.rows s.stride s.low s.small))
          c.normalize.ensures,
      rw (wide, high, apart) at c.normalize.ensures,
    )
