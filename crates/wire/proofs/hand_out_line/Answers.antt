-- The head, the line in the part after it, and the write after the line.
-- Assumes nothing.
use mathlib.Core.Path.{◌≡◌, refl}
use mathlib.Core.List.{[], ◌∷◌, ◌++◌}
use Prim.Native.Nat.{◌+◌, ◌-◌, ◌/◌}
use native.Mathlib.Omega.{arith}
use lib.ListN.{length, take, drop}
use Rattle.lists.specs.Lists.{overlay_at}
use Rattle.panel.specs.Dots.{row_dot}
use Rattle.wire.specs.Registers.{register_write}
use Rattle.wire.specs.Line.{line, handed_line}
use Rattle.lists.proofs.Parts.{overlay_part, overlay_three}
use Rattle.wire.proofs.Line.{length-line}
use Rattle.wire.proofs.hand_out_line.Goals as goal

pub returns : goal.returns
unfolding handed_line
returns c =
    let put-head = c.put_head in
    let a = c.args in
    let b = length a.row.now in
    let bytes = line b a.rows a.stage a.y (row_dot a.row.now) in
    let o = put-head.new.out in
    let put = c.put_line in
    let part : take 3 o ++ (put.new.out ++ drop (length o - 3) (drop 3 o)) ≡ overlay_at 3 bytes o =
    rw put.ensures (overlay_part 3 (length o - 3) bytes o refl) in
    let head = register_write 0x0A [] in
    let after = register_write 0x02 (0x2F ∷ []) in (
      refl,
      overlay_three a.out.now o _ _ head bytes after 3 (b + a.rows / 4 + b + 3) refl
          (omega (arith, length-line b a.rows a.stage a.y (row_dot a.row.now)))
          (omega arith)
          put-head.ensures
          part
          c.put_at.ensures,
    )
