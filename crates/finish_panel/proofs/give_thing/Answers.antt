-- What the step stands for.
-- Assumes nothing.
use Rattle.finish_panel.proofs.give_thing.Goals as goal

pub returns : goal.returns
returns c = rw (← c.step_at-step.ensures.is _ _ _) c.give_step.ensures
