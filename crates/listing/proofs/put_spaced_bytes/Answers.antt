-- Each byte takes three characters. Assumes nothing.
use mathlib.Core.Path.{ap, ◌∙◌}
use mathlib.Core.List.{append_assoc}
use native.Mathlib.Omega.{arith}
use lib.ListN.{length, take, length-append, length-take}
use Rattle.listing.specs.Text.{spaced_bytes}
use Rattle.listing.proofs.Text.{length_spaced, spaced_turn}
use Rattle.listing.proofs.put_spaced_bytes.Goals as goal

pub put_text-requires : goal.put_text-requires
put_text-requires c =
    let put = spaced_bytes (take c.loop-byte.byte-index c.args.bytes.now) in
    omega (
      arith,
      ap length c.loop-byte.invariant,
      length-append c.args.page.now.items put,
      length_spaced (take c.loop-byte.byte-index c.args.bytes.now),
      length-take c.loop-byte.byte-index c.args.bytes.now,
    )

pub loop-byte-preserved : goal.loop-byte-preserved
loop-byte-preserved c =
    rw (spaced_turn c.args.bytes.now c.loop-byte.byte-index c.loop-byte-test.true, ← append_assoc, ← c.loop-byte.invariant)
    (c.put_text.ensures ∙ rw (c.digit_of.ensures, c.digit_of-in-loop-byte.ensures))
