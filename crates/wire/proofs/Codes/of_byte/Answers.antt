-- The bits of every second dot, in the order of a line's bytes.
-- Assumes nothing.
use borrow.Author.Tests.{eq-eqb, ne_eqb}
use Rattle.wire.specs.Line.{even_byte, odd_byte}
use Rattle.wire.proofs.Codes.of_byte.Goals as goal

pub returns-then-this-ne0 : goal.returns-then-this-ne0
unfolding odd_byte
returns-then-this-ne0 g c = rw (ne_eqb _ _ c.if-this-ne0.true) c.of_four.ensures

pub returns-else-this-ne0 : goal.returns-else-this-ne0
unfolding even_byte
returns-else-this-ne0 g c = rw (eq-eqb _ _ c.if-this-ne0.false) c.of_four-else-this-ne0.ensures
