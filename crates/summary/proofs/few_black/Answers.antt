-- One byte more a turn.
-- Assumes nothing.
use Prim.Native.Nat.{◌+◌}
use native.Mathlib.Omega.{arith}
use lib.ListN.{take, length-take}
use Rattle.summary.proofs.Bytes.{bytes_le, black_more}
use Rattle.summary.proofs.few_black.Goals as goal

pub overflow_add-black : goal.overflow_add-black
overflow_add-black c =
    let l = c.loop-byte in
    let bytes = c.args.bytes.now in
    let e = black_more bytes l.byte-index l.black c.byte_black-black.result (omega arith) l.invariant c.byte_black-black.ensures in
    omega (arith, e, bytes_le (take (l.byte-index + 1) bytes), length-take (l.byte-index + 1) bytes)

pub loop-byte-preserved : goal.loop-byte-preserved
loop-byte-preserved c =
    let l = c.loop-byte in
    black_more c.args.bytes.now l.byte-index l.black c.byte_black-black.result (omega arith) l.invariant c.byte_black-black.ensures
