-- `data_good`: what the panel asks of registers 0x01 and 0x04 is what crate panel's tables hold. Assumes nothing.
use mathlib.Core.Path.{sym, ap, ◌∙◌}
use mathlib.Core.List.{[], ◌∷◌}
use native.Mathlib.Omega.{arith}
use lib.ListN.{drop}
use Rattle.panel.specs.Names.{panel_code}
use Rattle.settings.specs.Settings.{has_prefix}
use Rattle.settings.proofs.Decode.{asked_channels, asked_level, asked_nothing, channels-long, level-long}
use Rattle.settings.proofs.data_good.Goals as goal

pub has_prefix-requires : goal.has_prefix-requires
has_prefix-requires c =
    let a = c.args in
    omega (arith, channels-long (panel_code a.panel) a.register c.in-1.is)

pub has_prefix-requires-in-4 : goal.has_prefix-requires-in-4
has_prefix-requires-in-4 c =
    let a = c.args in
    omega (arith, level-long (panel_code a.panel) a.register c.in-4.is)

pub returns-in-1 : goal.returns-in-1
returns-in-1 c =
    let a = c.args in
    let asked = asked_channels (panel_code a.panel) a.register c.in-1.is in
    c.has_prefix.ensures ∙ ap (has_prefix (drop a.at a.file.now)) (c.channel_data.ensures ∙ sym asked)

pub returns-in-4 : goal.returns-in-4
returns-in-4 c =
    let a = c.args in
    let asked = asked_level (panel_code a.panel) a.register (omega arith) c.in-4.is in
    c.has_prefix-in-4.ensures
    ∙ ap (has_prefix (drop a.at a.file.now)) (ap (λ v. v ∷ []) c.gate_source_level.ensures ∙ sym asked)

pub returns-in_default : goal.returns-in_default
returns-in_default c = rw (asked_nothing (panel_code c.args.panel) c.args.register (omega arith) (omega arith))
