-- A box takes its place and hands each child its part, a level below; a row box that finds no level remaining lies too deep.
-- Assumes nothing.
use Rattle.std.proofs.Common.{arith, ◌≡◌, ◌<◌}
use Rattle.layout_rules.specs.Boxes.{child_count, start_of}
use Rattle.layout.specs.Places.{levels_above}
use Rattle.layout.specs.Facts.{ShareFound}
use Rattle.layout_rules.proofs.Boxes.{good_framed, box-within}
use Rattle.layout.proofs.Places.{child-at, row_part, column_part}
use Rattle.layout.proofs.Layouts.{too_deep, room, all_divided, child-stands, more_divided}
use Rattle.layout.proofs.+column_layout_row_layout.Goals as goal

-- ---- the column box

pub column_layout-start_of-at-requires : goal.column_layout-start_of-at-requires
column_layout-start_of-at-requires t c = (good_framed c.args.list.now c.requires.0.good, c.requires.0.box)

pub column_layout-bounds-chart-c : goal.column_layout-bounds-chart-c
column_layout-bounds-chart-c t c =
    let a = c.args in
    let q = c.requires in
    (room a.list.now a.c a.levels a.place a.chart.now q.0 (omega (arith, q.1))).0

pub column_layout-bounds-list-at : goal.column_layout-bounds-list-at
column_layout-bounds-list-at t c =
    let list = c.args.list.now in
    let q = c.requires in
    omega (arith, box-within list (good_framed list q.0.good) c.args.c c.start_of-at.result q.0.box c.start_of-at.ensures)

pub column_layout-share_of-share-requires : goal.column_layout-share_of-share-requires
column_layout-share_of-share-requires t c =
    let a = c.args in
    let q = c.requires in
    child-at a.list.now q.0.good a.c q.0.box _ c.loop-j.j c.start_of-at.ensures (omega arith)

pub column_layout-row_layout-requires : goal.column_layout-row_layout-requires
column_layout-row_layout-requires t c =
    let a = c.args in
    let q = c.requires in
    let list = a.list.now in
    let l = c.loop-j in
    let share = c.share_of-share.result in
    let h : l.j < child_count list (start_of list a.c) = rw (← c.start_of-at.ensures) (omega arith) in
    let f : ShareFound list (start_of list a.c) l.j share = rw c.start_of-at.ensures at c.share_of-share.ensures in
    let part = column_part list (start_of list a.c) (levels_above list a.c) a.place l.j share f c.part-top.result (omega (arith, q.0.level, q.1)) c.part-top.ensures in (
      omega (arith, c.decreases, q.1),
      (
        child-stands list a.c a.levels a.place a.chart.now q.0 (omega (arith, q.1)) l.j h share.child f.child _ part _ l.chart l.invariant,
        omega (arith, q.1),
      ),
    )

pub column_layout-loop-j-preserved : goal.column_layout-loop-j-preserved
column_layout-loop-j-preserved t c =
    let a = c.args in
    let q = c.requires in
    let list = a.list.now in
    let l = c.loop-j in
    let share = c.share_of-share.result in
    let h : l.j < child_count list (start_of list a.c) = rw (← c.start_of-at.ensures) (omega arith) in
    let f : ShareFound list (start_of list a.c) l.j share = rw c.start_of-at.ensures at c.share_of-share.ensures in
    let part = column_part list (start_of list a.c) (levels_above list a.c) a.place l.j share f c.part-top.result (omega (arith, q.0.level, q.1)) c.part-top.ensures in
    more_divided list a.c a.levels a.place a.chart.now q.0 (omega (arith, q.1)) l.j h share.child f.child _ part _ l.chart l.invariant
    c.row_layout.new.chart c.in_ok-row_layout.ensures

pub column_layout-returns : goal.column_layout-returns
column_layout-returns t c =
    let a = c.args in
    let q = c.requires in
    let list = a.list.now in
    let l = c.loop-j in
    let e : l.j ≡ child_count list (start_of list a.c) = rw (← c.start_of-at.ensures) (omega arith) in
    all_divided list a.c a.levels a.place a.chart.now q.0 (omega (arith, q.1)) l.chart (rw e at l.invariant)

-- ---- the row box

pub row_layout-returns-then-levels-eq0 : goal.row_layout-returns-then-levels-eq0
row_layout-returns-then-levels-eq0 t c =
    let a = c.args in
    too_deep a.list.now a.c a.place a.chart.now (rw c.if-levels-eq0.true at c.requires.0)

pub row_layout-start_of-at-requires : goal.row_layout-start_of-at-requires
row_layout-start_of-at-requires t c = (good_framed c.args.list.now c.requires.0.good, c.requires.0.box)

pub row_layout-bounds-chart-c : goal.row_layout-bounds-chart-c
row_layout-bounds-chart-c t c =
    let a = c.args in
    let q = c.requires in
    (room a.list.now a.c a.levels a.place a.chart.now q.0 (omega arith)).0

pub row_layout-bounds-list-at : goal.row_layout-bounds-list-at
row_layout-bounds-list-at t c =
    let list = c.args.list.now in
    let q = c.requires in
    omega (arith, box-within list (good_framed list q.0.good) c.args.c c.start_of-at.result q.0.box c.start_of-at.ensures)

pub row_layout-share_of-share-requires : goal.row_layout-share_of-share-requires
row_layout-share_of-share-requires t c =
    let a = c.args in
    let q = c.requires in
    child-at a.list.now q.0.good a.c q.0.box _ c.loop-j.j c.start_of-at.ensures (omega arith)

pub row_layout-column_layout-requires : goal.row_layout-column_layout-requires
row_layout-column_layout-requires t c =
    let a = c.args in
    let q = c.requires in
    let list = a.list.now in
    let l = c.loop-j in
    let share = c.share_of-share.result in
    let h : l.j < child_count list (start_of list a.c) = rw (← c.start_of-at.ensures) (omega arith) in
    let f : ShareFound list (start_of list a.c) l.j share = rw c.start_of-at.ensures at c.share_of-share.ensures in
    let part = row_part list (start_of list a.c) (levels_above list a.c) a.place l.j share f c.part-left.result (omega (arith, q.0.level, q.1)) c.part-left.ensures in (
      omega (arith, c.decreases, q.1),
      (
        child-stands list a.c a.levels a.place a.chart.now q.0 (omega arith) l.j h share.child f.child _ part _ l.chart l.invariant,
        omega (arith, q.1),
      ),
    )

pub row_layout-loop-j-preserved : goal.row_layout-loop-j-preserved
row_layout-loop-j-preserved t c =
    let a = c.args in
    let q = c.requires in
    let list = a.list.now in
    let l = c.loop-j in
    let share = c.share_of-share.result in
    let h : l.j < child_count list (start_of list a.c) = rw (← c.start_of-at.ensures) (omega arith) in
    let f : ShareFound list (start_of list a.c) l.j share = rw c.start_of-at.ensures at c.share_of-share.ensures in
    let part = row_part list (start_of list a.c) (levels_above list a.c) a.place l.j share f c.part-left.result (omega (arith, q.0.level, q.1)) c.part-left.ensures in
    more_divided list a.c a.levels a.place a.chart.now q.0 (omega arith) l.j h share.child f.child _ part _ l.chart l.invariant
    c.column_layout.new.chart c.in_ok-column_layout.ensures

pub row_layout-returns : goal.row_layout-returns
row_layout-returns t c =
    let a = c.args in
    let q = c.requires in
    let list = a.list.now in
    let l = c.loop-j in
    let e : l.j ≡ child_count list (start_of list a.c) = rw (← c.start_of-at.ensures) (omega arith) in
    all_divided list a.c a.levels a.place a.chart.now q.0 (omega arith) l.chart (rw e at l.invariant)
