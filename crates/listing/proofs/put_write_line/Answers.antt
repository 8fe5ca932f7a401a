-- A write's line has at most 33 characters. Assumes nothing.
use native.Mathlib.Omega.{arith}
use lib.ListN.{length-append}
use Rattle.listing.proofs.Text.{length_spaced}
use Rattle.listing.proofs.put_write_line.Goals as goal

pub put_text-requires-2 : goal.put_text-requires-2
put_text-requires-2 c =
    simp (c.put_spaced_bytes-2.ensures, c.put_spaced_bytes.ensures, c.put_text.ensures, length-append, length_spaced) (omega arith)
