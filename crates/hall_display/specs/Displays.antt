-- The panels and the depths as the code has them, by the numbers that name them.
-- Assumes nothing.
use Rattle.std.specs.Prelude.{ℕ, ◌≡◌, false, Result, MatchResult}
use Rattle.refusal.specs.declared.Refusal.{Refusal}
use Rattle.refusal.specs.declared.Refusal.TheVariants as refusals
use Rattle.hall_display.specs.Panels.{is_panel, is_depth, is_display}
use Rattle.hall_display.specs.declared.Panel.{Panel}
use Rattle.hall_display.specs.declared.Panel.TheVariants.{Inch133, Inch312}
use Rattle.hall_display.specs.declared.Depth.{Depth}
use Rattle.hall_display.specs.declared.Depth.TheVariants.{One, Two}
use Rattle.hall_display.specs.declared.Display.{Display}

-- the code of a panel, and the bits of a depth
abbrev pub panel_code : Panel → ℕ
panel_code Inch133 = 0x3E
panel_code Inch312 = 0x3F

abbrev pub depth_bits : Depth → ℕ
depth_bits One = 1
depth_bits Two = 2

-- a number names this panel or depth, or none, which is refused
abbrev pub NamesPanel : ℕ → Result Panel Refusal → Type 0
NamesPanel code r = MatchResult r (λ panel. panel_code panel ≡ code) (λ e. (e ≡ refusals.Display) × (is_panel code ≡ false))

abbrev pub NamesDepth : ℕ → Result Depth Refusal → Type 0
NamesDepth bits r = MatchResult r (λ depth. depth_bits depth ≡ bits) (λ e. (e ≡ refusals.Display) × (is_depth bits ≡ false))

-- two numbers give this display
pub record Shows (panel depth : ℕ) (display : Display) : Type 0 where
  pub panel-is : panel_code display.panel ≡ panel
  pub depth_is : depth_bits display.depth ≡ depth

-- or none, which is refused
abbrev pub IsNo : (panel depth : ℕ) → Refusal → Type 0
IsNo panel depth e = (e ≡ refusals.Display) × (is_display panel depth ≡ false)
