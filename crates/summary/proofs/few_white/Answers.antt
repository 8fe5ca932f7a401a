-- All bits of the bytes together.
-- Assumes nothing.
use Rattle.std.proofs.Common.{ℕ, eqb, ap, arith, rules, ◌∙◌}
use lib.Bits.{bit_and}
use Rattle.std.proofs.lemmas.Iterator.{YieldsList-from_slice}
use Rattle.std.proofs.lemmas.Iterator.Consumers.{fold_from_yields_List}
use Rattle.summary.proofs.Bytes.{all_white}
use Rattle.summary.proofs.few_white.Goals as goal

pub returns : goal.returns
returns c =
    let bytes = c.args.bytes.now in
    let is = fold_from_yields_List _ bit_and 0xFF c.fold.result c.fold.ensures.ran (YieldsList-from_slice bytes cc) (λ a x b q k. search rules) in
    ap (λ (all : ℕ). eqb all 0xFF) is ∙ all_white bytes 0xFF (omega arith) (λ k. (c.type_inv.bytes k).fits)
