-- The byte that is read is the row's k-th, from its first on or from its last back.
-- Assumes nothing.
use mathlib.Core.Path.{◌≡◌, refl, sym, ap, ◌∙◌}
use mathlib.Core.Bool.{Bool, cond, not}
use Prim.Native.Nat.{ℕ, ◌-◌, ◌*◌}
use native.Mathlib.Omega.{arith}
use borrow.Author.Tests.{eq-eqb, ne_eqb}
use lib.Dec.{eqb}
use lib.ListN.{length, get_or, length-set}
use Rattle.lists.proofs.Lists.{table_more}
use Rattle.panel.specs.Codes.{code_by}
use Rattle.panel.specs.Dots.{bit, row_dot}
use Rattle.wire.specs.Line.{dots_byte}
use Rattle.wire.proofs.Bytes.{dots_byte_lem}
use Rattle.wire.proofs.put_dots.Goals.{then-this-ne0, else-this-ne0}
use Rattle.wire.proofs.put_dots.Goals as goal

pub loop-k-preserved : goal.loop-k-preserved
loop-k-preserved g c =
    let a = c.args in
    let row = a.row.now in
    let l = c.loop-k in
    let odd : Bool = not (eqb g.row.ODD 0) in
    let code = code_by a.codes.white a.codes.black in
    let place : c.if-this-ne0.j ≡ cond odd (length row - 1 - l.k) l.k =
    elim c.if-this-ne0.branch [
      | then-this-ne0 w ↦ rw (ne_eqb _ _ w.if-this-ne0.true) w.j-is
      | else-this-ne0 w ↦ rw (eq-eqb _ _ w.if-this-ne0.false) w.j-is
    ] in
    let byte = c.of_byte.ensures
    ∙ ap (λ (j : ℕ). dots_byte odd 8 (λ x. code (bit (get_or row j 0) x)) 0) place
    ∙ sym (dots_byte_lem code row odd (length row) l.k (omega arith)) in (
      simp length-set (omega arith),
      table_more a.at a.out.now (dots_byte odd (8 * length row) (λ x. code (row_dot row x))) l.out l.k _ _ l.invariant.1 refl byte (omega arith),
    )
