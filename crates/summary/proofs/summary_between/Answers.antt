-- The rows lie in the slot, and no dot outside them is black.
-- Assumes nothing.
use native.Mathlib.Omega.{arith}
use Rattle.summary.proofs.Summaries.{rows-within, counted}
use Rattle.summary.proofs.summary_between.Goals as goal

pub overflow_mul-rows : goal.overflow_mul-rows
overflow_mul-rows c =
    let a = c.args in
    let p = c.requires in
    let rows = rows-within a.b a.h a.raw.now a.first a.last p.3 p.4 p.1 p.2 in
    omega arith

pub overflow_add-rows : goal.overflow_add-rows
overflow_add-rows c =
    let a = c.args in
    let p = c.requires in
    let rows = rows-within a.b a.h a.raw.now a.first a.last p.3 p.4 p.1 p.2 in
    omega arith

pub overflow_mul-rows-2 : goal.overflow_mul-rows-2
overflow_mul-rows-2 c =
    let a = c.args in
    let p = c.requires in
    let rows = rows-within a.b a.h a.raw.now a.first a.last p.3 p.4 p.1 p.2 in
    omega arith

pub slice_bounds-rows-count : goal.slice_bounds-rows-count
slice_bounds-rows-count c =
    let a = c.args in
    let p = c.requires in
    let rows = rows-within a.b a.h a.raw.now a.first a.last p.3 p.4 p.1 p.2 in
    omega arith

pub slice_bounds-rows-start : goal.slice_bounds-rows-start
slice_bounds-rows-start c =
    let a = c.args in
    let p = c.requires in
    let rows = rows-within a.b a.h a.raw.now a.first a.last p.3 p.4 p.1 p.2 in
    omega arith

pub slice_bounds-rows-end : goal.slice_bounds-rows-end
slice_bounds-rows-end c =
    let a = c.args in
    let p = c.requires in
    let rows = rows-within a.b a.h a.raw.now a.first a.last p.3 p.4 p.1 p.2 in
    omega arith

pub overflow_cast-result : goal.overflow_cast-result
overflow_cast-result c =
    let a = c.args in
    let p = c.requires in
    let rows = rows-within a.b a.h a.raw.now a.first a.last p.3 p.4 p.1 p.2 in
    omega arith

pub overflow_cast-result-2 : goal.overflow_cast-result-2
overflow_cast-result-2 c =
    let a = c.args in
    let p = c.requires in
    let rows = rows-within a.b a.h a.raw.now a.first a.last p.3 p.4 p.1 p.2 in
    omega arith

pub returns : goal.returns
returns c =
    let a = c.args in
    let p = c.requires in
    counted a.b a.h a.raw.now a.first a.last p.3 p.4 p.1 p.2 p.0 c.black_in.result c.black_in.ensures
