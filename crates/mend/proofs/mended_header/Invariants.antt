-- The file's header is copied; then each turn mends one field more.
-- Assumes nothing.
use mathlib.Core.Path.{◌≡◌}
use lib.ListN.{length, take}
use Rattle.bitmap.specs.Header.{header_length, header_fields}
use Rattle.mend.specs.Mending.{mend_fields}
use Rattle.mend.proofs.mended_header.Given as goal

abbrev pub invariant-loop-entry : goal.invariant-loop-entry
invariant-loop-entry l =
    let s = l.fn.shape in
    (length l.header ≡ header_length)
    × (l.header ≡ mend_fields l.file (take l.entry-index (header_fields s.bytes s.rows s.stride)) (take header_length l.file))
