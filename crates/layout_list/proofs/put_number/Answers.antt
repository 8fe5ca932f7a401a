-- The digits, then the byte.
-- Assumes nothing.
use Rattle.std.proofs.Common.{arith, ◌≡◌, ◌<◌, ◌∙◌, ap, length, take, append_assoc}
use lib.ListN.{length-append, length-take}
use Rattle.listing.specs.Text.{decimal}
use Rattle.layout_list.proofs.Lines.{fewest_decimal, fewest_short}
use Rattle.layout_list.proofs.put_number.Goals as goal

pub unwrap-requires : goal.unwrap-requires
unwrap-requires c =
    let d = c.decimal-k in
    let k = fewest_short c.from.result d.result (omega arith) d.ensures.len in
    c.try_extend_from_slice.ensures.variant.1 (rw length-take (omega (arith, k)))

pub push-requires : goal.push-requires
push-requires c =
    let d = c.decimal-k in
    let k = fewest_short c.from.result d.result (omega arith) d.ensures.len in
    let put = rw c.unwrap.ensures at c.try_extend_from_slice.ensures.ok in
    let room : length c.try_extend_from_slice.new.self.items < 1024 = rw (put, length-append, length-take) (omega (arith, k)) in
    (omega arith, room)

pub returns-clause-text : goal.returns-clause-text
returns-clause-text c =
    let d = c.decimal-k in
    let put = rw c.unwrap.ensures at c.try_extend_from_slice.ensures.ok in
    let text : take d.result d.new.out ≡ decimal c.args.n =
    d.ensures.digits ∙ fewest_decimal c.from.result d.result (omega arith) d.ensures.len ∙ ap decimal c.from.ensures in
    rw (c.push.ensures.items, put, text, append_assoc)

pub returns-clause-short : goal.returns-clause-short
returns-clause-short c =
    let d = c.decimal-k in
    let k = fewest_short c.from.result d.result (omega arith) d.ensures.len in
    let put = rw c.unwrap.ensures at c.try_extend_from_slice.ensures.ok in
    rw (c.push.ensures.len, put, length-append, length-take) (omega (arith, k))
