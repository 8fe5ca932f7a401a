-- Each box hands its parts to the other kind with a level less, so the measure is the levels remaining. Each turn places one child more.
-- Assumes nothing.
use Rattle.layout.proofs.Layouts.{Divided}
use Rattle.layout.proofs.+column_layout_row_layout.Given as goal

abbrev pub decreases-column_layout : goal.decreases-column_layout
decreases-column_layout l = l.levels

abbrev pub decreases-row_layout : goal.decreases-row_layout
decreases-row_layout l = l.levels

abbrev pub invariant-column_layout-loop-j : goal.invariant-column_layout-loop-j
invariant-column_layout-loop-j l = Divided l.list l.c l.place l.initial.chart l.j l.chart

abbrev pub invariant-row_layout-loop-j : goal.invariant-row_layout-loop-j
invariant-row_layout-loop-j l = Divided l.list l.c l.place l.initial.chart l.j l.chart
