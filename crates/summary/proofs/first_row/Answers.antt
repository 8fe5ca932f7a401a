-- A row that was passed is white, by one test or byte by byte.
-- Assumes nothing.
use mathlib.Core.Path.{◌≡◌, sym}
use mathlib.Core.Bool.{false}
use Prim.Native.Nat.{◌+◌, ◌-◌, ◌*◌}
use native.Mathlib.Omega.{arith}
use lib.ListN.{take, drop}
use borrow.Author.Count.{below_more}
use borrow.Author.Tests.{eqb-true}
use Rattle.std.specs.List.{sum_by}
use Rattle.std.proofs.lemmas.List.{take_all}
use Rattle.picture.specs.Slots.{picture_of}
use Rattle.summary.specs.Summaries.{has_black}
use Rattle.summary.specs.Facts.{black_in_byte}
use Rattle.summary.proofs.Bytes.{white_more}
use Rattle.summary.proofs.Rows.{row_white, row_black, first_none, first_found}
use Rattle.summary.proofs.first_row.Goals as goal
use Rattle.summary.proofs.first_row.Goals.{then-not-all_white+else-loop-byte-test, else-not-all_white}

pub loop-byte-preserved : goal.loop-byte-preserved
loop-byte-preserved c =
    let b = c.args.b in
    let y = c.rows.y in
    white_more (take ((y + 1) * b - y * b) (drop (y * b) c.args.raw.now)) c.loop-byte.byte-index (omega arith) c.loop-byte.invariant c.if-byte.false

pub rows-preserved : goal.rows-preserved
rows-preserved c =
    let b = c.args.b in
    let h = c.args.h in
    let y = c.rows.y in
    let passed = row_white b h c.args.raw.now y (omega arith) c.requires.0 in
    let white : has_black b (picture_of b h c.args.raw.now) y ≡ false =
    elim c.if-not-all_white.branch [
      | then-not-all_white+else-loop-byte-test w ↦ passed (rw (take_all w.loop-byte.byte-index (take ((y + 1) * b - y * b) (drop (y * b) c.args.raw.now)) w.loop-byte-test.false) at w.loop-byte.invariant)
      | else-not-all_white w ↦ passed (eqb-true (sum_by black_in_byte (take ((y + 1) * b - y * b) (drop (y * b) c.args.raw.now))) 0 (sym w.if-not-all_white.ensures))
    ] in
    (omega arith, below_more (λ k. has_black b (picture_of b h c.args.raw.now) k ≡ false) y c.rows.invariant.1 white)

pub returns-then-y-h : goal.returns-then-y-h
returns-then-y-h c =
    let b = c.args.b in
    let h = c.args.h in
    let e : c.rows.y ≡ h = omega arith in
    first_none b h (picture_of b h c.args.raw.now) (rw e at c.rows.invariant.1)

pub returns-then-byte : goal.returns-then-byte
returns-then-byte c =
    let b = c.args.b in
    let h = c.args.h in
    first_found b h (picture_of b h c.args.raw.now) c.rows.y (omega arith) (row_black b h c.args.raw.now c.rows.y (omega arith) c.requires.0 c.if-not-all_white.ensures) c.rows.invariant.1
