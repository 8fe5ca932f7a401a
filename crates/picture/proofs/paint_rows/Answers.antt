-- Each turn paints one row more: `row_more`.
-- Assumes nothing.
use mathlib.Core.Path.{◌≡◌, sym, ap, ◌∙◌}
use Prim.Native.Nat.{ℕ, ◌*◌, ◌≤◌}
use native.Mathlib.Omega.{arith}
use lib.ListN.{length, length-take, length-drop}
use Rattle.panel.specs.Dots.{dot}
use Rattle.panel.proofs.Dots.{dot_lt}
use Rattle.picture.specs.Regions.{payload_row}
use Rattle.picture.proofs.Slots.{none_painted, row_more, row_ends, row_lent}
use Rattle.picture.proofs.Regions.{region_facts, payload_length}
use Rattle.picture.proofs.paint_rows.Goals as goal

pub loop-j-init : goal.loop-j-init
loop-j-init g c =
    let a = c.args in
    let region = a.region in (
      c.requires.0,
      none_painted a.shape.bytes a.shape.rows a.raw.now (c.requires.0, λ k. (c.type_inv.raw k).fits)
          region.x region.y region.width 0 (dot (payload_row region.width) a.payload.now) (λ u v i. omega arith),
    )

pub slice_bounds-paint_row-end : goal.slice_bounds-paint_row-end
slice_bounds-paint_row-end g c =
    let region = c.args.region in
    let ends = row_ends c.loop-j.j region.height c.row_bytes-bytes.result (omega arith) in
    let long = payload_length region.width region.height c.args.payload.now c.requires.2 in
    rw (long, ← c.row_bytes-bytes.ensures) ends.1

pub paint_row-requires : goal.paint_row-requires
paint_row-requires g c =
    let a = c.args in
    let region = a.region in
    let facts = region_facts a.shape.bytes a.shape.rows region.x region.y region.width region.height c.requires.1 in
    let bytes = c.row_bytes-bytes.result in
    let ends = row_ends c.loop-j.j region.height bytes (omega arith) in
    let long : length a.payload.now ≡ region.height * bytes =
    payload_length region.width region.height a.payload.now c.requires.2 ∙ ap (λ (n : ℕ). region.height * n) (sym c.row_bytes-bytes.ensures) in
    let wide : region.width ≤ 8 * bytes = omega (arith, c.row_bytes-bytes.ensures) in
    (c.loop-j.invariant.0, facts.2, omega (arith, facts.3), simp (length-take, length-drop) (omega (arith, ends.0, ends.1, long, wide)))

pub loop-j-preserved : goal.loop-j-preserved
loop-j-preserved g c =
    let a = c.args in
    let region = a.region in
    let payload = a.payload.now in
    let bytes = c.row_bytes-bytes.result in
    let is = c.row_bytes-bytes.ensures in
    let l = c.loop-j in
    row_more a.shape.bytes a.shape.rows a.shape.some a.raw.now l.raw _ region.x region.y region.width l.j
    (dot (payload_row region.width) payload) _ (dot_lt (payload_row region.width) payload)
    (λ u u-lt. row_lent bytes payload l.j u (omega (arith, is)) ∙ ap (λ (n : ℕ). dot n payload u l.j) is)
    l.invariant.1 c.paint_row.ensures
