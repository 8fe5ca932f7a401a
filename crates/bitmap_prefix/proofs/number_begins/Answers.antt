-- A byte that has not come ends the question, as does one that differs.
-- Assumes nothing.
use mathlib.Core.Path.{◌≡◌, refl, sym, ◌∙◌}
use Prim.Native.Nat.{◌+◌, ◌-◌}
use native.Mathlib.Omega.{arith}
use lib.ListN.{drop}
use Rattle.bitmap_prefix.proofs.Reading.{agrees_none, begins_end, begins_next, begins-not}
use Rattle.bitmap_prefix.proofs.number_begins.Goals as goal

pub loop-i-init : goal.loop-i-init
loop-i-init c =
    let e : c.args.at + 0 ≡ c.args.at = omega arith in
    let f : c.args.size - 0 ≡ c.args.size = omega arith in
    rw (e, f) refl

pub returns-then-bytes-at : goal.returns-then-bytes-at
returns-then-bytes-at c =
    let a = c.args in
    let l = c.loop-i in
    begins_end a.bytes.now a.size l.i a.at l.left c.if-bytes-at.true ∙ l.invariant

pub returns-then-bytes-at-2 : goal.returns-then-bytes-at-2
returns-then-bytes-at-2 c =
    let a = c.args in
    let l = c.loop-i in
    begins-not a.bytes.now a.size l.i a.at l.left (omega arith) (omega arith) c.if-bytes-at-2.true ∙ l.invariant

pub loop-i-preserved : goal.loop-i-preserved
loop-i-preserved c =
    let a = c.args in
    let l = c.loop-i in
    begins_next a.bytes.now a.size l.i a.at l.left (omega arith) (omega arith) c.if-bytes-at-2.false ∙ l.invariant

pub returns : goal.returns
returns c =
    let a = c.args in
    let l = c.loop-i in
    let e : a.size - l.i ≡ 0 = omega arith in
    sym (agrees_none (drop (a.at + l.i) a.bytes.now)) ∙ rw e at l.invariant
