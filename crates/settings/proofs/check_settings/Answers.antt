-- `check_settings` meets its contract. Assumes nothing.
use Rattle.settings.specs.Settings.{check_settings}
use Rattle.settings.proofs.check_settings.Goals as goal

pub returns-in-Some : goal.returns-in-Some
unfolding check_settings
returns-in-Some c = simp (← c.laid_out.ensures.good, c.in-Some.is)

pub returns-in-None : goal.returns-in-None
unfolding check_settings
returns-in-None c = simp (← c.laid_out.ensures.good, c.in-None.is)
