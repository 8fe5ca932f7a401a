-- `make_plan`: the tables of the panel, and the sections of an accepted file. Assumes nothing.
use Rattle.settings.proofs.Accepted.{good-long, good-panel}
use Rattle.settings.proofs.Plans.{plan_made}
use Rattle.settings.proofs.make_plan.Goals as goal

pub panel_of-panel-requires : goal.panel_of-panel-requires
panel_of-panel-requires c = record { long = good-long _ c.requires.good; panel = good-panel _ c.requires.good }

pub returns : goal.returns
returns c = plan_made c.requires c.panel_of-panel.ensures c.shape.ensures c.from.ensures c.from-2.ensures
