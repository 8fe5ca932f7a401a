-- `data_of`: the data of a write stand right after its first two bytes. Assumes nothing.
use Prim.Native.Nat.{◌+◌, ◌-◌}
use native.Mathlib.Omega.{arith}
use Rattle.panel.specs.Names.{panel_code}
use Rattle.settings.proofs.Steps.{write_fits, write_data}
use Rattle.settings.proofs.file.AcceptedFile.data_of.Goals as goal

pub slice_bounds-result-end : goal.slice_bounds-result-end
slice_bounds-result-end c =
    let a = c.args in
    omega (arith, write_fits (panel_code a.self.plan.panel) a.self.file.now a.at a.register c.requires.0 c.requires.1)

pub returns : goal.returns
returns c =
    let a = c.args in
    write_data (panel_code a.self.plan.panel) a.self.file.now a.at a.register c.requires.0 (a.at + 2 + c.data_length.result - (a.at + 2))
    (omega (arith, c.data_length.ensures.0))
