-- The panel is asked first; then the file decides.
-- Assumes nothing.
use mathlib.Core.Path.{ap, ◌∙◌}
use borrow.Author.Tests.{le-ltb, lt-ltb}
use Rattle.std.proofs.lemmas.Result.{err_from_is_err_and}
use Rattle.panel.specs.Panels.{Sizes, shape_of}
use Rattle.panel.proofs.Panels.{code_lt}
use Rattle.mend.proofs.Calls.{no_panel, of_panel}
use Rattle.mend.proofs.mend.Goals as goal

pub returns-in_err-panel : goal.returns-in_err-panel
returns-in_err-panel c =
    let a = c.args in
    let p = err_from_is_err_and c.from_residual.result c.from_residual.ensures.1 in
    rw (p.1, p.2) (no_panel a.panel a.file.now a.out.now a.list.now (le-ltb a.panel 3 c.in_err-panel.ensures))

pub returns : goal.returns
returns c =
    let a = c.args in
    let named = c.in_ok-panel.ensures in
    let is = c.shape.ensures ∙ ap shape_of named in
    let low = rw named at (code_lt c.in_ok-panel.panel) in
    c.mend_for.ensures
    ∙ of_panel a.panel a.file.now a.out.now a.list.now (lt-ltb a.panel 3 low) (ap (λ (s : Sizes). s.bytes) is) (ap (λ (s : Sizes). s.rows) is)
    (ap (λ (s : Sizes). s.stride) is)
