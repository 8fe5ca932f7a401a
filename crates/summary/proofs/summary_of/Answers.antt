-- Where no row has a black dot the summary is empty; else the rows from the first to the last are counted.
-- Assumes nothing.
use mathlib.Core.Path.{sym, ◌∙◌}
use Rattle.picture.specs.Slots.{picture_of}
use Rattle.summary.proofs.Rows.{first_nothing, last_nothing}
use Rattle.summary.proofs.Summaries.{blank}
use Rattle.summary.proofs.summary_of.Goals as goal

pub returns-in_default : goal.returns-in_default
returns-in_default c =
    let a = c.args in
    let picture = picture_of a.b a.h a.raw.now in
    let nothing = sym c.first_row.ensures ∙ c.in_default.is in
    c.empty_summary.ensures ∙ blank a.b a.h picture (first_nothing a.b a.h picture nothing)

pub returns-in_default-last_row : goal.returns-in_default-last_row
returns-in_default-last_row c =
    let a = c.args in
    let picture = picture_of a.b a.h a.raw.now in
    let nothing = sym c.last_row.ensures ∙ c.in_default-last_row.is in
    c.empty_summary-in_default-last_row.ensures ∙ blank a.b a.h picture (last_nothing a.b a.h picture nothing)
