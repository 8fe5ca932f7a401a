-- `mark`: a write marks its register, and another step nothing. Assumes nothing.
use borrow.Author.Tests.{eq-eqb, ne_eqb}
use Rattle.settings.proofs.mark.Goals as goal

pub returns-then-file-at-eq87 : goal.returns-then-file-at-eq87
returns-then-file-at-eq87 c = rw (eq-eqb _ _ c.if-file-at-eq87.true, c.from.ensures)

pub returns-else-file-at-eq87 : goal.returns-else-file-at-eq87
returns-else-file-at-eq87 c = rw (ne_eqb _ _ c.if-file-at-eq87.false)
