-- Each turn puts one line more.
-- Assumes nothing.
use Rattle.std.proofs.Common.{◌≡◌, ◌≤◌, ◌*◌, take, length}
use Rattle.layout_list.specs.Text.{leaf_lines}
use Rattle.layout_list.proofs.put_leaves.Given as goal

abbrev pub invariant-loop-leaf : goal.invariant-loop-leaf
invariant-loop-leaf l = (l.page.items ≡ leaf_lines (take l.leaf-index l.leaves.rects)) × (length l.page.items ≤ 16 * l.leaf-index)
