-- The table's rule.
-- Assumes nothing.
use mathlib.Core.Path.{refl}
use mathlib.Core.Bool.{true}
use Prim.Native.Nat.{◌<◌}
use lib.ListN.{replicate}
use Rattle.finish_order.specs.Order.{done}
use Rattle.finish_order.specs.Facts.{thing_of, step_within}
use Rattle.lists.proofs.Elements.{at_map}
use Rattle.lists.proofs.Rules.{holds}
use Rattle.finish_order.proofs.step_before.Goals as goal

pub returns : goal.returns
returns c =
    λ otp.
    let h : c.args.k < 33 = c.requires in
    record {
      within = rw (at_map step_within true) (holds c.args.k (replicate 33 true) refl);
      is = λ index new second. rw (at_map (thing_of otp index new second) done);
    }
