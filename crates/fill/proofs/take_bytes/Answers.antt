-- Each turn takes in one piece more, and the whole rows after it, and leaves the rest to be taken in from there.
-- Assumes nothing.
use mathlib.Core.Path.{◌≡◌, ap, ◌∙◌}
use mathlib.Core.List.{◌++◌}
use native.Mathlib.Omega.{arith}
use borrow.Author.Rules.{rules}
use lib.ListN.{length-drop, take-append-drop}
use Rattle.bitmap.proofs.Check.{rows-small}
use Rattle.fill.specs.Feeding.{bytes_fed}
use Rattle.fill.proofs.Taken.{rest-whole, piece_counted, none_kept_lem, piece_next, rows_next}
use Rattle.fill.proofs.take_bytes.Goals as goal

pub take_rows-rows-requires : goal.take_rows-rows-requires
take_rows-rows-requires c =
    let s = c.args.shape in
    let step = c.take_piece-here in
    let counted = piece_counted s.bytes s.rows s.stride c.loop-rest.here step.result c.loop-rest.raw _ c.split_at.result.0.now step.ensures.0 in
    (search rules, omega (arith, counted))

pub overflow_add-here : goal.overflow_add-here
overflow_add-here c =
    let s = c.args.shape in
    let step = c.take_piece-here in
    let counted = piece_counted s.bytes s.rows s.stride c.loop-rest.here step.result c.loop-rest.raw _ c.split_at.result.0.now step.ensures.0 in
    omega (arith, counted, c.take_rows-rows.ensures.0, rows-small s.rows s.stride s.low s.small)

pub loop-rest-preserved : goal.loop-rest-preserved
loop-rest-preserved c =
    let s = c.args.shape in
    let l = c.loop-rest in
    let step = c.take_piece-here in
    let rows = c.take_rows-rows in
    let parts = c.split_at.result in
    let counted = piece_counted s.bytes s.rows s.stride l.here step.result l.raw _ parts.0.now step.ensures.0 in
    let whole = rest-whole rows.result parts.1.now in
    let both : parts.0.now ++ parts.1.now ≡ l.rest.now = rw (c.split_at.ensures.front, c.split_at.ensures.back) (take-append-drop _ l.rest.now) in (
      rw (whole, length-drop) (omega (arith, counted, rows.ensures.0)),
      rw whole
          (rows_next s.bytes s.rows s.stride parts.1.now rows.result step.result _ _
          (λ any. none_kept_lem s.bytes s.rows s.stride l.here step.result l.raw _ _ step.ensures.0 (rows.ensures.1 any))
          rows.ensures.2
          ∙ piece_next s.bytes s.rows s.stride (omega arith) (omega arith) parts.0.now parts.1.now l.here step.result l.raw _ (search rules) step.ensures.1
          (omega arith) step.ensures.0
          ∙ ap (bytes_fed s.bytes s.rows s.stride (l.here, l.raw)) both
          ∙ l.invariant.1),
    )
