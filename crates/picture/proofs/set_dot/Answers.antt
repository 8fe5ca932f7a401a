-- The byte that holds the dot is the one with that dot replaced: `painted_white`, `painted_black`.
-- Assumes nothing.
use native.Mathlib.Omega.{arith}
use borrow.Author.Rules.{rules}
use Rattle.picture.proofs.Slots.{painted_white, painted_black}
use Rattle.picture.proofs.set_dot.Goals.{then-v-eq1, else-v-eq1}
use Rattle.picture.proofs.set_dot.Goals as goal

pub returns : goal.returns
returns c =
    let a = c.args in
    let b = a.b in
    let h = a.h in
    elim c.if-v-eq1.branch [
      | then-v-eq1 w ↦
          rw w.raw-is
          (painted_white b h (omega arith) a.raw.now (c.requires.0, λ k. search rules) a.x a.y a.v c.requires.1 c.requires.2 w.if-v-eq1.true)
      | else-v-eq1 w ↦
          rw w.raw-is
          (painted_black b h (omega arith) a.raw.now (c.requires.0, λ k. search rules) a.x a.y a.v c.requires.1 c.requires.2
          (omega (arith, c.requires.3, w.if-v-eq1.false)))
    ]
