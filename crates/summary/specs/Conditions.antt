-- Request 2026-05: 13 also for a count above X times Y, a first row after the last, a last row not below Y, rows given at a count of 0, or
-- none at another count.
-- Assumes nothing.
use Rattle.std.specs.Prelude.{ℕ, suc, ◌*◌, Bool, not, ◌&&◌, List, [], ◌∷◌, Option, Some, None, eqb, leb, ltb, get_or}
use Rattle.lists.specs.Rules.{every, all_below}
use Rattle.summary.specs.Summaries.{empty_summary}
use Rattle.summary.specs.declared.Span.{Span}
use Rattle.summary.specs.declared.Summary.{Summary}

-- none is given at a count of 0 alone, and rows at any other; the first is not after the last, and the last is below Y
abbrev pub span_good : (h black : ℕ) → Option Span → Bool
span_good h black None = eqb black 0
span_good h black (Some span) = every (not (eqb black 0) ∷ leb span.first span.last ∷ ltb span.last h ∷ [])

-- a summary keeps the conditions
unfoldable pub summary_good : (b h : ℕ) → Summary → Bool
summary_good b h summary = leb summary.black (8 * b * h) && span_good h summary.black summary.span

-- those of slots 0 to n do; places after that of slot n are no slots
unfoldable pub summaries_good : (b h n : ℕ) → List Summary → Bool
summaries_good b h n summaries = all_below (suc n) (λ slot. summary_good b h (get_or summaries slot empty_summary))
