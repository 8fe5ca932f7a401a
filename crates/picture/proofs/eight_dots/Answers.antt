-- Eight dots that lie in one byte are that byte; others are joined from two.
-- Assumes nothing.
use Rattle.picture.proofs.Joined.{eight_whole, eight_joined}
use Rattle.picture.proofs.eight_dots.Goals as goal

pub returns-then-shift-eq0 : goal.returns-then-shift-eq0
returns-then-shift-eq0 c =
    let a = c.args in
    eight_whole a.row.now (λ k. (c.type_inv.row k).fits) a.i c.if-shift-eq0.true

pub returns : goal.returns
returns c =
    let a = c.args in
    eight_joined a.row.now (λ k. (c.type_inv.row k).fits) a.i
