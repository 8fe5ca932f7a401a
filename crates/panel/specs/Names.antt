-- The panels as the code has them, by the numbers that name them.
-- Assumes nothing.
use Rattle.std.specs.Prelude.{ℕ, ◌≡◌, ◌≤◌, Result, MatchResult}
use Rattle.panel.specs.declared.table.Panel.{Panel}
use Rattle.panel.specs.declared.table.Panel.TheVariants.{Inch144, Inch200, Inch270}
use Rattle.panel.specs.declared.table.NoSuchPanel.{NoSuchPanel}

-- the number that names a panel
abbrev pub panel_code : Panel → ℕ
panel_code Inch144 = 0
panel_code Inch200 = 1
panel_code Inch270 = 2

-- a number names this panel, or none
abbrev pub Names : ℕ → Result Panel NoSuchPanel → Type 0
Names code r = MatchResult r (λ panel. panel_code panel ≡ code) (λ _. 3 ≤ code)
