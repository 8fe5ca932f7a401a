-- `upload_region`, by what was found, and by what was placed. Assumes nothing.
use mathlib.Core.Path.{refl}
use borrow.Author.Rules.{rules}
use Rattle.panel.specs.Facts.{sizes}
use Rattle.board.proofs.Tests.{slot_still, upload_slot}
use Rattle.board.proofs.Replies.{some_refused, drawn_refused, region_upload_refused, region_uploaded}
use Rattle.board.proofs.State.upload_region.Goals as goal

pub returns-in-Err : goal.returns-in-Err
returns-in-Err c =
    let a = c.args in
    rw c.refuse.ensures
    (search (rules, region_upload_refused a.self a.memory.now a.slot c.in-Err.ensures.number_is a.x a.y a.width a.height a.payload.now (some_refused c.in-Err.refusal)))

pub place_region-requires : goal.place_region-requires
place_region-requires c = upload_slot c.args.self _ c.in-Ok.plan c.args.slot c.in-Ok.ensures

pub reply_drawn-requires : goal.reply_drawn-requires
reply_drawn-requires c = slot_still (upload_slot c.args.self _ c.in-Ok.plan c.args.slot c.in-Ok.ensures) (search rules)

pub returns-in-Ok-place_region : goal.returns-in-Ok-place_region
returns-in-Ok-place_region c =
    let a = c.args in
    let found = c.in-Ok.ensures in
    rw c.reply_drawn.ensures
    (region_uploaded a.self a.memory.now a.slot found.number_is a.x a.y a.width a.height a.payload.now refl found.plan.shape_is refl c.in-Ok-place_region.ensures)

pub returns-in-Err-place_region : goal.returns-in-Err-place_region
returns-in-Err-place_region c =
    let a = c.args in
    let found = c.in-Ok.ensures in
    rw c.refuse-in-Err-place_region.ensures
    (region_uploaded a.self a.memory.now a.slot found.number_is a.x a.y a.width a.height a.payload.now refl found.plan.shape_is
    (drawn_refused (sizes c.in-Ok.plan.shape) a.self _ a.slot _ (some_refused c.in-Err-place_region.refusal)) c.in-Err-place_region.ensures)
