-- The padding is written right after the row.
-- Assumes nothing.
use mathlib.Core.Path.{◌≡◌}
use mathlib.Core.List.{List}
use Prim.Native.Nat.{ℕ, ◌+◌, ◌-◌, ◌*◌, ◌≤◌}
use native.Mathlib.Omega.{arith}
use lib.ListN.{length, replicate}
use Rattle.picture.specs.Slots.{picture_of, picture_row}
use Rattle.picture.proofs.Slots.{rows_picture}
use Rattle.lists.proofs.Parts.{more_rows, part_length_lem, part_next}
use Rattle.bitmap_codec.proofs.write_row.Goals as goal

pub returns : goal.returns
returns c =
    let a = c.args in
    let s = a.shape in
    let picture : List ℕ = picture_of s.bytes s.rows a.raw.now in
    let rows = rows_picture s.bytes s.rows s.some a.raw.now (c.requires.1, λ k. (c.type_inv.raw k).fits) in
    let more : a.y * s.bytes + s.bytes ≤ s.rows * s.bytes = more_rows a.y s.rows s.bytes c.requires.0 in
    let l : length (picture_row s.bytes picture a.y) ≡ s.bytes = part_length_lem (a.y * s.bytes) s.bytes picture (omega (arith, rows.0)) in
    part_next a.at a.out.now (picture_row s.bytes picture a.y) (replicate (s.stride - s.bytes) 0) (a.at + s.bytes)
    c.copy_row.ensures c.fill_at.ensures (omega arith) (omega arith)
