-- What each row answers.
-- Assumes nothing.
use Rattle.std.proofs.Common.{rules, tests, arith, ◌≡◌, ◌+◌, true, false}
use mathlib.Core.Path.{refl}
use Rattle.std.proofs.lemmas.Iterator.{cases_from_all, YieldsList-from_range}
use Rattle.lists.proofs.Ranges.{below_by_range}
use Rattle.picture.specs.Regions.{row_clear}
use Rattle.picture.proofs.rows_clear.Goals as goal

pub returns : goal.returns
returns c =
    let region = c.args.region in
    let clear = row_clear region.width c.args.payload.now in
    let ran = cases_from_all _ _ _ (λ j. clear j ≡ true) (λ j. clear j ≡ false) c.all.ensures.ran
    (YieldsList-from_range 0 region.height region.height refl (omega arith))
    (λ x q k. search (rules, tests)) (λ x q k. search (rules, tests)) in
    below_by_range _ 0 region.height clear (λ j. clear j ≡ true) (λ j. clear j ≡ false)
    (λ k e. let s : 0 + k ≡ k = omega arith in rw s at e)
    (λ k e. let s : 0 + k ≡ k = omega arith in rw s at e) ran
