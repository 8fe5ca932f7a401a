-- The first refusal, or the next thing.
-- Assumes nothing.
use Rattle.std.proofs.Common.{arith, ◌≡◌, refl, option_copied}
use Rattle.std.proofs.lemmas.Result.{err_from_is_err_and}
use borrow.Author.Tests.{ne_eqb}
use mir.Syntax.{w32}
use mir.Val.{to_z, of_z}
use mir.Facts.{to_z-of_z}
use Rattle.refusal.specs.declared.Refusal.TheVariants.{OtpLength}
use Rattle.finish_rules.proofs.Rules.{picture_size}
use Rattle.finish_panel.proofs.Update.{shown_as, shown_size, refused_in, given_in}
use Rattle.finish_panel.proofs.give_next.Goals as goal

pub returns-in_default : goal.returns-in_default
returns-in_default c =
    let a = c.args in
    refused_in a.mode a.otp.now a.temperature a.new.now (option_copied a.shown) a.given a.out.now OtpLength
    (rw (ne_eqb _ _ c.in_default.ensures.1) refl)

pub returns-in_err-index : goal.returns-in_err-index
returns-in_err-index c =
    let a = c.args in
    let p = err_from_is_err_and c.from_residual.result c.from_residual.ensures.1 in
    let handed : to_z w32 (of_z w32 a.temperature) ≡ a.temperature = to_z-of_z c.ranges.temperature in
    rw (p.1, p.2) (refused_in a.mode a.otp.now a.temperature a.new.now (option_copied a.shown) a.given a.out.now c.in_err-index.field-0.0
    (rw (handed, c.in-Ok.ensures.1.same, c.unwrap_or-as_long.ensures, shown_as a.shown a.new) at c.in_err-index.ensures.number))

pub give_thing-requires-clause-sizes : goal.give_thing-requires-clause-sizes
give_thing-requires-clause-sizes c = (picture_size _ c.in_ok-index.ensures.accepted.0.picture).1

pub give_thing-requires-clause-lent : goal.give_thing-requires-clause-lent
give_thing-requires-clause-lent c =
    let a = c.args in
    let f = c.in_ok-index.ensures.accepted.0 in
    let same = rw (c.unwrap_or-as_long.ensures, shown_as a.shown a.new) at f.same_size in
    shown_size a.shown a.new.now 48000 (omega (arith, same, (picture_size _ f.picture).1))

pub returns : goal.returns
returns c =
    let a = c.args in
    let handed : to_z w32 (of_z w32 a.temperature) ≡ a.temperature = to_z-of_z c.ranges.temperature in
    let whole = c.in-Ok.ensures.1.same in
    let taken = rw (handed, whole, c.unwrap_or-as_long.ensures, shown_as a.shown a.new) at c.in_ok-index.ensures.accepted in
    given_in a.mode a.otp.now a.temperature a.new.now (option_copied a.shown) a.given a.out.now taken.0
    (rw (whole, taken.1) at c.give_thing.ensures)
