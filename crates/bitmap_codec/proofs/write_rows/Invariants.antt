-- Each turn writes one row more.
-- Assumes nothing.
use mathlib.Core.Path.{◌≡◌}
use Prim.Native.Nat.{◌*◌}
use lib.ListN.{take}
use Rattle.lists.specs.Lists.{overlay_at}
use Rattle.picture.specs.Slots.{picture_of}
use Rattle.bitmap.specs.Header.{header_length}
use Rattle.bitmap_codec.specs.Codec.{file_rows}
use Rattle.bitmap_codec.proofs.write_rows.Given as goal

abbrev pub invariant-loop-j : goal.invariant-loop-j
invariant-loop-j l =
    let s = l.shape in
    l.out ≡ overlay_at header_length (take (l.j * s.stride) (file_rows s.bytes s.rows s.stride (picture_of s.bytes s.rows l.raw))) l.initial.out
