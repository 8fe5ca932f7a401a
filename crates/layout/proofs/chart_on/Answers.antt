-- The first box has six levels remaining, its own among them.
-- Assumes nothing.
use Rattle.std.proofs.Common.{arith, refl}
use Rattle.layout_rules.proofs.Boxes.{good_some}
use Rattle.layout.proofs.Places.{levels_first}
use Rattle.layout.proofs.Layouts.{all_placed_from}
use Rattle.layout.proofs.chart_on.Goals as goal

pub row_layout-requires : goal.row_layout-requires
row_layout-requires c =
    let list = c.args.list.now in
    let q = c.requires in (
      record {
        good = q.0;
        box = good_some list q.0;
        level = omega (arith, levels_first list);
        inside = record { across = omega (arith, q.1); down = omega (arith, q.2) };
        whole = refl;
      },
      refl,
    )

pub returns : goal.returns
returns c =
    let a = c.args in
    all_placed_from a.list.now c.requires.0 a.width a.height _ c.row_layout.new.chart c.in_ok-row_layout.ensures
