-- How far the pointer moved.
-- Assumes nothing.
use mathlib.Core.Path.{refl}
use native.Mathlib.Omega.{arith}
use Rattle.start_board.proofs.HallWords.{read_moved}
use Rattle.start_board.proofs.hall.epd_hall_read.Goals as goal

pub overflow_sub-reader : goal.overflow_sub-reader
overflow_sub-reader c =
    let a = c.args in
    (read_moved a.slot a.at a.command.now a.memory.now c.in-Ok.ensures refl).0

pub overflow_cast-reader : goal.overflow_cast-reader
overflow_cast-reader c =
    let a = c.args in
    omega (arith, (read_moved a.slot a.at a.command.now a.memory.now c.in-Ok.ensures refl).1)

pub make_word-requires-in-Ok : goal.make_word-requires-in-Ok
make_word-requires-in-Ok c =
    let a = c.args in
    omega (arith, (read_moved a.slot a.at a.command.now a.memory.now c.in-Ok.ensures refl).1)
