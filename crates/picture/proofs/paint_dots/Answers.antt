use Prim.Native.Nat.{◌+◌}
use native.Mathlib.Omega.{arith}
use Rattle.panel.specs.Dots.{row_dot}
use Rattle.picture.proofs.Pictures.{row_dot_lt}
use Rattle.picture.proofs.Slots.{none_painted, dot_more}
use Rattle.picture.proofs.paint_dots.Goals as goal

pub loop-k-init : goal.loop-k-init
loop-k-init c =
    let s = c in
    let a = s.args in (
      s.requires.0,
      none_painted a.b a.h a.raw.now (s.requires.0, λ k. (c.type_inv.raw k).fits)
          a.x a.y 0 1 (λ u _. row_dot a.row.now (a.i + u)) (λ u v i. omega arith),
    )

pub set_dot-requires : goal.set_dot-requires
set_dot-requires c =
    let a = c.args in
    let l = c.loop-k in
    (l.invariant.0, omega arith, omega arith, rw c.get_dot.ensures (row_dot_lt a.row.now (a.i + l.k)), omega arith)

pub loop-k-preserved : goal.loop-k-preserved
loop-k-preserved c =
    let s = c in
    let a = s.args in
    let l = c.loop-k in
    let e = dot_more a.b a.h (omega arith) a.raw.now l.raw _ a.x a.y l.k _
    (λ u _. row_dot a.row.now (a.i + u)) (λ u _. row_dot_lt a.row.now (a.i + u))
    l.invariant.1 c.get_dot.ensures c.set_dot.ensures in
    e
