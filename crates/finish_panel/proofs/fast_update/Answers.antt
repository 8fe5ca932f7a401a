-- What is handed on is the temperature.
-- Assumes nothing.
use Rattle.std.proofs.Common.{◌≡◌}
use mir.Syntax.{w32}
use mir.Val.{to_z, of_z}
use mir.Facts.{to_z-of_z}
use Rattle.finish_panel.specs.Update.{fast_update}
use Rattle.finish_panel.proofs.fast_update.Goals as goal

pub returns : goal.returns
unfolding fast_update
returns c =
    let handed : to_z w32 (of_z w32 c.args.temperature) ≡ c.args.temperature = to_z-of_z c.ranges.temperature in
    rw handed at c.give_next.ensures
