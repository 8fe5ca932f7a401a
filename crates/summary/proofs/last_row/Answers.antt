-- A row that was passed is white, by one test or byte by byte.
-- Assumes nothing.
use mathlib.Core.Path.{sym}
use Prim.Native.Nat.{ℕ, ◌+◌, ◌-◌, ◌*◌}
use native.Mathlib.Omega.{arith}
use lib.ListN.{take, drop}
use borrow.Author.Tests.{eqb-true}
use Rattle.std.specs.List.{sum_by}
use Rattle.picture.specs.Slots.{picture_of}
use Rattle.summary.specs.Summaries.{has_black}
use Rattle.summary.specs.Facts.{black_in_byte}
use Rattle.summary.proofs.Bytes.{white_more}
use Rattle.summary.proofs.Rows.{row_white, row_black, fails_before, last_none, last_found}
use Rattle.summary.proofs.last_row.Goals as goal

pub loop-byte-preserved : goal.loop-byte-preserved
loop-byte-preserved c =
    let b = c.args.b in
    let y : ℕ = c.rows.y - 1 in
    white_more (take ((y + 1) * b - y * b) (drop (y * b) c.args.raw.now)) c.loop-byte.byte-index (omega arith) c.loop-byte.invariant c.if-byte.false

pub rows-preserved : goal.rows-preserved
rows-preserved c =
    let b = c.args.b in
    let h = c.args.h in
    let y : ℕ = c.rows.y - 1 in
    let white = row_white b h c.args.raw.now y (omega arith) c.requires.0
    (eqb-true (sum_by black_in_byte (take ((y + 1) * b - y * b) (drop (y * b) c.args.raw.now))) 0 (sym c.if-not-all_white.ensures)) in
    (omega arith, fails_before (has_black b (picture_of b h c.args.raw.now)) h y c.rows.y (omega arith) c.rows.invariant.1 white)

pub returns-then-y-eq0 : goal.returns-then-y-eq0
returns-then-y-eq0 c =
    let b = c.args.b in
    let h = c.args.h in
    last_none b h (picture_of b h c.args.raw.now) (λ k l. c.rows.invariant.1 k (omega arith) l)

pub returns-then-byte : goal.returns-then-byte
returns-then-byte c =
    let b = c.args.b in
    let h = c.args.h in
    let y : ℕ = c.rows.y - 1 in
    last_found b h (picture_of b h c.args.raw.now) y (omega arith) (row_black b h c.args.raw.now y (omega arith) c.requires.0 c.if-not-all_white.ensures)
    (λ k m. c.rows.invariant.1 k (omega arith))
