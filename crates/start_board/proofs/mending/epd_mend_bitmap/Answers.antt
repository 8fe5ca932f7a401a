-- The answer of the call, as a number.
-- Assumes nothing.
use Rattle.start_board.proofs.MendNumber.{answer-fits}
use Rattle.start_board.proofs.mending.epd_mend_bitmap.Goals as goal

pub mended_number-requires : goal.mended_number-requires
mended_number-requires c =
    let a = c.args in
    answer-fits a.panel a.file.now a.out.now a.list.now c.mend.ensures
