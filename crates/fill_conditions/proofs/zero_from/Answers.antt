-- All bits of the bytes together.
-- Assumes nothing.
use mathlib.Core.Path.{◌∙◌, ap}
use lib.Bits.{bit_or}
use lib.Dec.{eqb}
use lib.ListN.{drop}
use Prim.Native.Nat.{ℕ}
use borrow.Author.Rules.{rules}
use Rattle.std.proofs.lemmas.Iterator.{YieldsList-from_slice}
use Rattle.std.proofs.lemmas.Iterator.Consumers.{fold_from_yields_List}
use Rattle.fill.proofs.Taken.{rest-whole, zero_bits}
use Rattle.fill_conditions.proofs.zero_from.Goals as goal

pub returns : goal.returns
returns c =
    let rest = drop c.args.from c.args.bytes.now in
    let from = YieldsList-from_slice rest (c.iter.ensures.rest ∙ rest-whole c.args.from c.args.bytes.now) in
    let is = fold_from_yields_List _ bit_or 0 c.fold.result c.fold.ensures.ran from (λ a x b q k. search rules) in
    ap (λ (any : ℕ). eqb any 0) is ∙ zero_bits rest 0
