-- The header, then the padding, then what the file has.
-- Assumes nothing.
use mathlib.Core.Path.{sym}
use native.Mathlib.Omega.{arith}
use Rattle.mend.proofs.Fields.{byte_header, byte_padding, byte_kept, byte_missing}
use Rattle.mend.proofs.Mending.byte.Goals as goal

pub returns-then-k-lt-HEADER_LENGTH : goal.returns-then-k-lt-HEADER_LENGTH
returns-then-k-lt-HEADER_LENGTH c = let m = c.args.self.now in sym (byte_header m.shape.bytes m.shape.stride m.header m.white m.file.now c.args.k (omega arith))

pub returns-then-k-self : goal.returns-then-k-self
returns-then-k-self c =
    let m = c.args.self.now in
    sym (byte_padding m.shape.bytes m.shape.stride m.header m.white m.file.now c.args.k (omega arith) (omega arith))

pub returns-then-k-self-2 : goal.returns-then-k-self-2
returns-then-k-self-2 c =
    let m = c.args.self.now in
    sym (byte_kept m.shape.bytes m.shape.stride m.header m.white m.file.now c.args.k (omega arith) (omega arith) (omega arith))

pub returns : goal.returns
returns c =
    let m = c.args.self.now in
    sym (byte_missing m.shape.bytes m.shape.stride m.header m.white m.file.now c.args.k (omega arith) (omega arith) (omega arith))
