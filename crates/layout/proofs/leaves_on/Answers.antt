-- A box of no dots, or the leaves.
-- Assumes nothing.
use Rattle.std.proofs.Common.{arith, ◌≡◌, ◌∙◌, ap, sym}
use mathlib.Core.Bool.{not}
use borrow.Author.Tests.{eq-eqb, ne_eqb}
use Rattle.lists.proofs.Rules.{refused, passed}
use Rattle.layout_rules.specs.Boxes.{box_count, child_count, start_of}
use Rattle.layout.specs.Places.{has_dots}
use Rattle.layout_rules.proofs.Boxes.{some_bytes, good_framed, box-within, next_start}
use Rattle.layout.proofs.Answer.{room, leaf_more, inner_more, size_more, no_dots, all_placed}
use Rattle.layout.proofs.leaves_on.Goals as goal
use Rattle.layout.proofs.leaves_on.Goals.{then-list-at-eq0, else-list-at-eq0}

pub bounds-list-0 : goal.bounds-list-0
bounds-list-0 c = let list = c.args.list.now in some_bytes list (good_framed list c.requires.0)

pub bounds-chart-c : goal.bounds-chart-c
bounds-chart-c c = omega (arith, (good_framed c.args.list.now c.requires.0).few)

pub returns-then-not-has_dots : goal.returns-then-not-has_dots
returns-then-not-has_dots c =
    let a = c.args in
    let l = c.loop-c in
    let all = c.in_ok-chart.ensures in
    let place = all.stands l.c (omega arith) in
    no_dots a.list.now a.width a.height all.levels l.c (omega arith)
    (ap has_dots (sym place) ∙ refused c.has_dots.ensures (ap not c.if-not-has_dots.true))

pub bounds-list-at : goal.bounds-list-at
bounds-list-at c =
    let list = c.args.list.now in
    let l = c.loop-c in
    omega (arith, box-within list (good_framed list c.requires.0) l.c l.at (omega arith) l.invariant.0)

pub offset_bounds-leaves-leaves : goal.offset_bounds-leaves-leaves
offset_bounds-leaves-leaves c =
    let a = c.args in
    let l = c.loop-c in
    omega (arith, (room a.list.now a.width a.height l.c l.leaves l.invariant.2 (omega (arith, (good_framed a.list.now c.requires.0).few))).0)

pub bounds-leaves-leaves : goal.bounds-leaves-leaves
bounds-leaves-leaves c =
    let a = c.args in
    let l = c.loop-c in
    (room a.list.now a.width a.height l.c l.leaves l.invariant.2 (omega (arith, (good_framed a.list.now c.requires.0).few))).0

pub overflow_add-leaves : goal.overflow_add-leaves
overflow_add-leaves c =
    let a = c.args in
    let l = c.loop-c in
    omega (arith, (room a.list.now a.width a.height l.c l.leaves l.invariant.2 (omega (arith, (good_framed a.list.now c.requires.0).few))).0)

pub next_box-at-requires : goal.next_box-at-requires
next_box-at-requires c =
    let list = c.args.list.now in
    let l = c.loop-c in
    box-within list (good_framed list c.requires.0) l.c l.at (omega arith) l.invariant.0

pub loop-c-preserved : goal.loop-c-preserved
loop-c-preserved c =
    let a = c.args in
    let list = a.list.now in
    let l = c.loop-c in
    let few = (good_framed list c.requires.0).few in
    let place = c.in_ok-chart.ensures.stands l.c (omega arith) in
    let dots = ap has_dots (sym place) ∙ passed c.has_dots.ensures (ap not c.if-not-has_dots.false) in (
      c.next_box-at.ensures ∙ next_start list l.c l.at l.invariant.0,
      size_more list a.width a.height l.c dots l.invariant.1,
      elim c.if-list-at-eq0.branch [
        | then-list-at-eq0 w ↦
            w.leaves-is ∙ rw place (leaf_more list a.width a.height l.c l.leaves l.invariant.2 (omega (arith, few))
            (eq-eqb (child_count list (start_of list l.c)) 0 (rw l.invariant.0 at w.if-list-at-eq0.true)))
        | else-list-at-eq0 w ↦
            w.leaves-is ∙ inner_more list a.width a.height l.c l.leaves l.invariant.2
            (ne_eqb (child_count list (start_of list l.c)) 0 (rw l.invariant.0 at w.if-list-at-eq0.false))
      ],
    )

pub returns : goal.returns
returns c =
    let a = c.args in
    let l = c.loop-c in
    let e : l.c ≡ box_count a.list.now = omega arith in
    rw (l.invariant.2, e) (all_placed a.list.now a.width a.height c.in_ok-chart.ensures.levels (rw e at l.invariant.1))
