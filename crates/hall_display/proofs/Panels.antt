-- Laws of the two panels and their header.
-- Assumes nothing.
use mathlib.Core.Path.{◌≡◌, refl}
use mathlib.Core.Bool.{true, false, and-false}
use Prim.Native.Nat.{ℕ}
use lib.ListN.{length}
use Rattle.hall_display.specs.Panels.{is_panel, is_depth, is_display, header}
use Rattle.hall_display.specs.Displays.{panel_code, depth_bits, Shows}
use Rattle.hall_display.specs.declared.Panel.{Panel}
use Rattle.hall_display.specs.declared.Panel.TheVariants.{Inch133, Inch312}
use Rattle.hall_display.specs.declared.Depth.{Depth}
use Rattle.hall_display.specs.declared.Depth.TheVariants.{One, Two}
use Rattle.hall_display.specs.declared.Display.{Display}

-- ---- what is a display

module _ (panel depth : ℕ) where
  pub no_panel : is_panel panel ≡ false → is_display panel depth ≡ false
  unfolding is_display
  no_panel e = rw e

  pub no_depth : is_depth depth ≡ false → is_display panel depth ≡ false
  unfolding is_display
  no_depth e = rw (e, and-false (is_panel panel))

  pub shown : (display : Display) → Shows panel depth display → is_display panel depth ≡ true
  unfolding is_display
  shown display s = rw (← s.panel-is, ← s.depth_is, each_panel display.panel, each_depth display.depth)
    where
      each_panel : (p : Panel) → is_panel (panel_code p) ≡ true
      each_panel Inch133 = refl
      each_panel Inch312 = refl

      each_depth : (d : Depth) → is_depth (depth_bits d) ≡ true
      each_depth One = refl
      each_depth Two = refl

-- ---- the header

pub header-length : (panel depth : ℕ) → length (header panel depth) ≡ 16
unfolding header
header-length panel depth = refl
