-- Each turn puts one byte more. Assumes nothing.
use mathlib.Core.Path.{◌≡◌}
use mathlib.Core.List.{◌++◌}
use lib.ListN.{take}
use Rattle.listing.specs.Text.{spaced_bytes}
use Rattle.listing.proofs.put_spaced_bytes.Given as goal

abbrev pub invariant-loop-byte : goal.invariant-loop-byte
invariant-loop-byte l = l.page.items ≡ l.initial.page.items ++ spaced_bytes (take l.byte-index l.bytes)
