use Prim.Native.Nat.{ℕ, ◌+◌, ◌*◌, ◌<◌}
use native.Mathlib.Omega.{arith}
use Rattle.panel.specs.Dots.{row_dot}
use Rattle.picture.proofs.Pictures.{row_dot_lt}
use Rattle.picture.proofs.Slots.{none_painted, painted_byte, byte_more}
use Rattle.picture.proofs.paint_bytes.Goals as goal

pub loop-k-init : goal.loop-k-init
loop-k-init c =
    let s = c in
    let a = s.args in (
      s.requires.0,
      none_painted a.shape.bytes a.shape.rows a.raw.now (s.requires.0, λ k. (c.type_inv.raw k).fits)
          a.x a.y (8 * 0) 1 (λ u _. row_dot a.row.now (a.i + u)) (λ u v i. omega arith),
    )

pub loop-k-preserved : goal.loop-k-preserved
loop-k-preserved c =
    let s = c in
    let a = s.args in
    let l = c.loop-k in
    let f : ℕ → ℕ = row_dot a.row.now in
    let d : (u : ℕ) → f u < 2 = row_dot_lt a.row.now in
    let e = byte_more a.shape.bytes a.shape.rows (omega arith) a.raw.now l.raw _ a.x a.y l.k a.i f d l.invariant.1
    (λ r. painted_byte a.shape.bytes a.shape.rows (omega arith) l.raw r a.x a.y l.k _ (λ u. f (a.i + 8 * l.k + u))
    s.requires.5 (omega arith) s.requires.2 (λ u. d (a.i + 8 * l.k + u)) c.eight_dots.ensures) in
    e
