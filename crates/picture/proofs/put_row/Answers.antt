-- A row painted from its first dot to its last: `row_put`.
-- Assumes nothing.
use mathlib.Core.Path.{◌≡◌}
use Prim.Native.Nat.{◌+◌}
use native.Mathlib.Omega.{arith}
use borrow.Author.Rules.{rules}
use Rattle.picture.proofs.Slots.{row_put}
use Rattle.picture.proofs.put_row.Goals as goal

pub returns : goal.returns
returns c =
    let s = c in
    let a = s.args in
    let y : a.y + 0 ≡ a.y = omega arith in
    row_put a.shape.bytes a.shape.rows a.raw.now (s.requires.0, λ k. search rules) a.y s.requires.1
    a.rows.now (λ k. search rules) a.at s.requires.2 _ (rw y at c.paint_row.ensures)
