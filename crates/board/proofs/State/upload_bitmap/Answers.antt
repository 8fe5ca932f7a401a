-- `upload_bitmap`, by what was found, and by what was placed. Assumes nothing.
use mathlib.Core.Path.{refl}
use borrow.Author.Rules.{rules}
use Rattle.panel.specs.Facts.{sizes}
use Rattle.board.proofs.Tests.{slot_still, upload_slot}
use Rattle.board.proofs.Replies.{some_refused, drawn_refused, bitmap_upload_refused, bitmap_uploaded}
use Rattle.board.proofs.State.upload_bitmap.Goals as goal

pub returns-in-Err : goal.returns-in-Err
returns-in-Err c =
    let a = c.args in
    rw c.refuse.ensures
    (search (rules, bitmap_upload_refused a.self a.memory.now a.slot c.in-Err.ensures.number_is a.bitmap.now (some_refused c.in-Err.refusal)))

pub place_bitmap-requires : goal.place_bitmap-requires
place_bitmap-requires c = upload_slot c.args.self _ c.in-Ok.plan c.args.slot c.in-Ok.ensures

pub reply_drawn-requires : goal.reply_drawn-requires
reply_drawn-requires c = slot_still (upload_slot c.args.self _ c.in-Ok.plan c.args.slot c.in-Ok.ensures) (search rules)

pub returns-in-Ok-place_bitmap : goal.returns-in-Ok-place_bitmap
returns-in-Ok-place_bitmap c =
    let a = c.args in
    let found = c.in-Ok.ensures in
    rw c.reply_drawn.ensures
    (bitmap_uploaded a.self a.memory.now a.slot found.number_is a.bitmap.now refl found.plan.shape_is refl c.in-Ok-place_bitmap.ensures)

pub returns-in-Err-place_bitmap : goal.returns-in-Err-place_bitmap
returns-in-Err-place_bitmap c =
    let a = c.args in
    let found = c.in-Ok.ensures in
    rw c.refuse-in-Err-place_bitmap.ensures
    (bitmap_uploaded a.self a.memory.now a.slot found.number_is a.bitmap.now refl found.plan.shape_is
    (drawn_refused (sizes c.in-Ok.plan.shape) a.self _ a.slot _ (some_refused c.in-Err-place_bitmap.refusal)) c.in-Err-place_bitmap.ensures)
