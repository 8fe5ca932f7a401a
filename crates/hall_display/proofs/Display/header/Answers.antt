-- Byte by byte, as the definition lists them.
-- Assumes nothing.
use mathlib.Core.Path.{◌≡◌}
use Prim.Native.Nat.{◌/◌, ◌%◌}
use native.Mathlib.Omega.{arith}
use lib.ListN.{get_or}
use Rattle.hall_display.specs.Panels.{width_of, rows_of, header}
use Rattle.hall_display.specs.Displays.{panel_code}
use Rattle.hall_display.proofs.Display.header.Goals as goal

pub returns : goal.returns
unfolding header
returns c =
    let p = panel_code c.args.self.panel in
    let x = c.to_be_bytes.result in
    let y = c.to_be_bytes-2.result in
    let x₁ : get_or x 0 0 ≡ width_of p / 256 = rw (c.to_be_bytes.ensures, c.width.ensures.0) (omega (arith, c.width.ensures)) in
    let x₂ : get_or x 1 0 ≡ width_of p % 256 = rw (c.to_be_bytes.ensures, c.width.ensures.0) (omega (arith, c.width.ensures)) in
    let y₁ : get_or y 0 0 ≡ rows_of p / 256 = rw (c.to_be_bytes-2.ensures, c.rows.ensures.0) (omega (arith, c.rows.ensures)) in
    let y₂ : get_or y 1 0 ≡ rows_of p % 256 = rw (c.to_be_bytes-2.ensures, c.rows.ensures.0) (omega (arith, c.rows.ensures)) in
    rw (x₁, x₂, y₁, y₂, c.code.ensures, c.bits.ensures.0, c.format.ensures)
