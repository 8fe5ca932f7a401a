-- The mask leaves the bit.
-- Assumes nothing.
use mathlib.Core.Path.{sym, ◌∙◌}
use Prim.Native.Nat.{◌/◌, ◌^◌}
use native.Mathlib.Omega.{arith}
use borrow.Author.Tests.{eq-eqb, ne_eqb}
use lib.Bits.{and_mask}
use Rattle.panel.specs.Codes.{code_by}
use Rattle.wire.proofs.Codes.of_dot.Goals as goal

pub returns-then-byte-k-eq1 : goal.returns-then-byte-k-eq1
unfolding code_by
returns-then-byte-k-eq1 c =
    let a = c.args in
    (rw (eq-eqb _ _ (sym (and_mask (a.byte / 2 ^ a.k) 1) ∙ c.if-byte-k-eq1.true)), omega arith)

pub returns-else-byte-k-eq1 : goal.returns-else-byte-k-eq1
unfolding code_by
returns-else-byte-k-eq1 c =
    let a = c.args in
    (rw (ne_eqb _ _ (λ e. c.if-byte-k-eq1.false (and_mask (a.byte / 2 ^ a.k) 1 ∙ e))), omega arith)
