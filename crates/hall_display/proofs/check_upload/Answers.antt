-- The refusals in their order.
-- Assumes nothing.
use Rattle.hall_display.proofs.Upload.{wrong_image, large_slot, no_refusal}
use Rattle.hall_display.proofs.check_upload.Goals as goal

pub returns-then-image_len-image_bytes-clause-number : goal.returns-then-image_len-image_bytes-clause-number
returns-then-image_len-image_bytes-clause-number c =
    let a = c.args in
    wrong_image a.panel a.depth a.image_len a.slot c.in_ok-display.display c.in_ok-display.ensures c.image_bytes.ensures c.if-image_len-image_bytes.true

pub returns-then-slot-gt255-clause-number : goal.returns-then-slot-gt255-clause-number
returns-then-slot-gt255-clause-number c =
    let a = c.args in
    large_slot a.panel a.depth a.image_len a.slot c.in_ok-display.display c.in_ok-display.ensures c.image_bytes.ensures c.if-image_len-image_bytes.false c.if-slot-gt255.true

pub returns-clause-number : goal.returns-clause-number
returns-clause-number c =
    let a = c.args in
    no_refusal a.panel a.depth a.image_len a.slot c.in_ok-display.display c.in_ok-display.ensures c.image_bytes.ensures c.if-image_len-image_bytes.false c.if-slot-gt255.false
