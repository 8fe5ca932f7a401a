-- A box that would begin at the end has no byte.
-- Assumes nothing.
use Rattle.std.proofs.Common.{arith, sym, length, ◌≤◌}
use borrow.Author.Tests.{ltb-false}
use Rattle.layout_rules.proofs.Boxes.{overrun}
use Rattle.layout_rules.proofs.framed.Goals as goal

pub returns-in_default : goal.returns-in_default
returns-in_default c =
    let list = c.args.list.now in
    let l = c.loop in
    let past : length list ≤ l.at = ltb-false l.at (length list) (sym c.in_default.ensures.lookup.0) in
    overrun list l.counter c.args.n (omega arith) (omega arith)
