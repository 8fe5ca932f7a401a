-- `step_at`: the bytes of a step tell its kind. Assumes nothing.
use mathlib.Core.Path.{ap, ◌∙◌}
use Rattle.std.specs.Prelude.{Some}
use Rattle.panel.specs.Names.{panel_code}
use Rattle.settings.proofs.Bytes.{told}
use Rattle.settings.proofs.step_at.Goals as goal

pub kind_at-requires : goal.kind_at-requires
kind_at-requires c = (told (panel_code c.args.panel) c.args.file.now c.args.at c.in_ok-step_size.ensures).0

pub returns : goal.returns
returns c = ap Some c.kind_at.ensures ∙ (told (panel_code c.args.panel) c.args.file.now c.args.at c.in_ok-step_size.ensures).1
