-- `pass_steps`: past a step, where none stands, and past all. Assumes nothing.
use mathlib.Core.Path.{◌≡◌, refl, ap, ◌∙◌}
use mathlib.Core.Bool.{false}
use Prim.Native.Nat.{ℕ, ◌+◌, ◌<◌}
use native.Mathlib.Omega.{arith}
use native.Mathlib.Nat.{sub-zero}
use lib.ListN.{length, get_or, drop}
use Rattle.panel.specs.Names.{panel_code}
use Rattle.settings.specs.Settings.{step_of}
use Rattle.settings.proofs.Bytes.{size_none, size_kind, told, mark_at, mark_length}
use Rattle.settings.proofs.Steps.{passing_none, passing_more, passing_fits, passing_stuck, passing_over}
use Rattle.settings.proofs.pass_steps.Goals as goal

pub loop-init : goal.loop-init
loop-init c = (refl, rw sub-zero (passing_none (panel_code c.args.panel) c.args.n c.args.at c.args.file.now c.requires))

pub step_size-requires : goal.step_size-requires
step_size-requires c = c.loop.invariant.1.within

pub returns-in_default : goal.returns-in_default
returns-in_default c =
    passing_stuck c.loop.invariant.1 (omega arith)
    (size_none (step_of (panel_code c.args.panel) (drop c.loop.end c.args.file.now)) c.in_default.ensures)

pub overflow_add-end : goal.overflow_add-end
overflow_add-end c =
    let s = drop c.loop.end c.args.file.now in
    let read = (told (panel_code c.args.panel) c.args.file.now c.loop.end c.in-Some.ensures).1 in
    let size = size_kind (step_of (panel_code c.args.panel) s) c.in-Some.ensures read in
    omega (arith, passing_fits c.loop.invariant.1 (omega arith) read size)

pub mark-requires : goal.mark-requires
mark-requires c =
    let step = told (panel_code c.args.panel) c.args.file.now c.loop.end c.in-Some.ensures in
    (omega (arith, step.0), step.2)

pub loop-preserved : goal.loop-preserved
loop-preserved c =
    let file = c.args.file.now in
    let end = c.loop.end in
    let written = c.loop.written in
    let step = told (panel_code c.args.panel) file end c.in-Some.ensures in
    let size = size_kind (step_of (panel_code c.args.panel) (drop end file)) c.in-Some.ensures step.1 in
    let ten : length written ≡ 10 = c.loop.invariant.0 in
    let small : get_or file (end + 1) 0 < length written = omega (arith, step.2) in
    let at = λ (k : ℕ). ap (λ w. get_or w k false) c.mark.ensures
    ∙ mark_at (get_or file end 0) (get_or file (end + 1) 0) (get_or file (end + 2) 0) written small k in (
      ap length c.mark.ensures ∙ mark_length (get_or file end 0) (get_or file (end + 1) 0) written ∙ ten,
      rw (at 0x01, at 0x04) (passing_more c.loop.invariant.1 (omega arith) step.1 (omega arith) size refl refl),
    )

pub returns : goal.returns
returns c = passing_over c.loop.invariant.1 (omega arith)
