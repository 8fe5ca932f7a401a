-- What the answer tells fits the rooms.
-- Assumes nothing.
use mathlib.Core.Path.{refl, sym}
use lib.Seq.{length-take-le}
use native.Mathlib.Omega.{arith}
use Rattle.bitmap_mend.proofs.Sizes.{within}
use Rattle.bitmap_mend.proofs.mend_into.Goals as goal

pub overflow_add-file : goal.overflow_add-file
overflow_add-file g c =
    let a = c.args in
    let sizes = within a.panel a.file.now a.out.now a.list.now c.in-Ok.ensures refl in
    omega (arith, sizes.0)

pub slice_bounds-write_all-end : goal.slice_bounds-write_all-end
slice_bounds-write_all-end g c =
    let a = c.args in
    let sizes = within a.panel a.file.now a.out.now a.list.now c.in-Ok.ensures refl in
    omega (arith, sizes.0)

pub slice_bounds-write_all-end-2 : goal.slice_bounds-write_all-end-2
slice_bounds-write_all-end-2 g c =
    let a = c.args in
    let sizes = within a.panel a.file.now a.out.now a.list.now c.in-Ok.ensures refl in
    sym (length-take-le _ _ (omega (arith, sizes.0)))

pub overflow_mul-changes : goal.overflow_mul-changes
overflow_mul-changes g c =
    let a = c.args in
    let sizes = within a.panel a.file.now a.out.now a.list.now c.in-Ok.ensures refl in
    omega (arith, sizes.1)

pub slice_bounds-print_changes-end : goal.slice_bounds-print_changes-end
slice_bounds-print_changes-end g c =
    let a = c.args in
    let sizes = within a.panel a.file.now a.out.now a.list.now c.in-Ok.ensures refl in
    omega (arith, sizes.1)

pub slice_bounds-print_changes-end-2 : goal.slice_bounds-print_changes-end-2
slice_bounds-print_changes-end-2 g c =
    let a = c.args in
    let sizes = within a.panel a.file.now a.out.now a.list.now c.in-Ok.ensures refl in
    sym (length-take-le _ _ (omega (arith, sizes.1)))
