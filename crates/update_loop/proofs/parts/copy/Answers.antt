-- Refused by its number, or read by `bitmap_codec`. Assumes nothing.
use Rattle.update_loop.proofs.Pictures.{copy_1, copy_4, copied}
use Rattle.update_loop.proofs.parts.copy.Goals as goal

pub returns-in_default : goal.returns-in_default
returns-in_default c =
    let a = c.args in
    copy_1 a.panel a.bitmap.now a.picture.now c.in_default.ensures

pub returns-then-bitmap-file_length : goal.returns-then-bitmap-file_length
returns-then-bitmap-file_length c =
    let a = c.args in
    copy_4 a.panel a.bitmap.now a.picture.now c.in-Some.shape c.in-Some.ensures c.file_length.ensures c.if-bitmap-file_length.true

pub returns : goal.returns
returns c =
    let a = c.args in
    copied a.panel a.bitmap.now a.picture.now c.in-Some.shape c.in-Some.ensures c.file_length.ensures _
    c.if-bitmap-file_length.false c.read_bitmap.ensures
