-- `data_length` meets its contract, case by case. Assumes nothing.
use Rattle.std.proofs.Common.{◌≡◌, sym, arith}
use Rattle.panel.specs.Registers.{data_length}
use Rattle.panel.proofs.Registers.{one_byte, no_register}
use Rattle.panel.proofs.data_length.Goals as goal

pub returns-in-1 : goal.returns-in-1
unfolding data_length
returns-in-1 c = rw c.in-1.is (omega arith)

pub returns-in-9 : goal.returns-in-9
unfolding data_length
returns-in-9 c = rw c.in-9.is (omega arith)

pub returns-in-2-to-8 : goal.returns-in-2-to-8
returns-in-2-to-8 c = (one_byte c.args.register (omega arith) (omega arith), omega arith)

-- below register 1 there is only 0
pub returns-in_default : goal.returns-in_default
unfolding data_length
returns-in_default c =
    let e : c.args.register ≡ 0 = omega arith in
    rw e (omega arith)

-- and from 9 on, but for 9, only numbers of no register
pub returns-in_default-2 : goal.returns-in_default-2
returns-in_default-2 c = (sym (no_register c.args.register (omega arith)), omega arith)
