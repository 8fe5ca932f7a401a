-- Past the test there are rows, they begin where a row begins, and the picture has room for them.
-- Assumes nothing.
use Prim.Native.Nat.{ℕ, ◌+◌, ◌-◌, ◌*◌, ◌≤◌, ◌<◌}
use native.Mathlib.Nat.{zero-mul}
use native.Mathlib.Omega.{arith}
use borrow.Author.Rules.{rules}
use lib.ListN.{length}
use Rattle.lists.proofs.Parts.{more_rows}
use Rattle.fill.specs.Fills.{rows_come}
use Rattle.fill.proofs.Rows.{at_row, rows_room, rows_none, row_next}
use Rattle.fill.proofs.take_rows.Goals as goal

pub loop-k-init : goal.loop-k-init
loop-k-init c =
    let a = c.args in
    let s = a.shape in
    let n = c.whole_rows-n in
    let some : 0 < s.stride = omega arith in
    let begin = n.ensures.1 (omega arith) in
    let at = at_row s.stride a.came some begin.0 begin.1 in (
      c.requires.0,
      at,
      rows_room s.rows s.stride a.came n.result some at (omega (arith, n.ensures.0)),
      λ slot. rw zero-mul (rows_none s.bytes s.rows s.stride slot a.palette a.came a.rows.now a.raw.now),
    )

pub loop-k-preserved : goal.loop-k-preserved
loop-k-preserved c =
    let l = c.loop-k in
    let n = c.whole_rows-n in
    let a = c.args in
    let s = a.shape in
    let more = more_rows l.k n.result s.stride c.loop-k-test.true in
    let room : l.k * s.stride + s.stride ≤ length a.rows.now = omega (arith, more, n.ensures.0) in
    let y : ℕ = s.rows - c.rows_come.result - 1 - l.k in (
      search rules,
      l.invariant.1,
      l.invariant.2,
      λ slot. row_next s.bytes s.rows s.stride slot a.palette s.within (omega arith) (omega arith) (rows_come s.stride a.came) a.came
          l.invariant.1 a.rows.now l.k room a.raw.now l.raw _ (l.invariant.3 slot) y (omega (arith, c.rows_come.ensures))
          c.put_dots.ensures,
    )
