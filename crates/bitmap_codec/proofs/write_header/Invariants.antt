-- Each field is written right after the ones before it.
-- Assumes nothing.
use mathlib.Core.Path.{◌≡◌}
use Rattle.lists.specs.Lists.{overlay}
use Rattle.bitmap_codec.proofs.Header.{front}
use Rattle.bitmap_codec.proofs.write_header.Given as goal

abbrev pub invariant-loop-entry : goal.invariant-loop-entry
invariant-loop-entry l =
    let s = l.fn.shape in
    l.out ≡ overlay (front s.bytes s.rows s.stride l.entry-index) l.initial.out
