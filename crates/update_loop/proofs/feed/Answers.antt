-- Nothing is fed with a size of 0; else each turn of the loop feeds one chunk. Assumes nothing.
use Rattle.std.proofs.Common.{◌≡◌, ◌-◌, ◌<◌, length, take, ap, rules, ◌∙◌, arith, length-drop}
use Rattle.board.specs.Calls.{fill_feed}
use Rattle.update_loop.proofs.Chunks.{none_fed, all_fed, chunk_some, one_fed}
use Rattle.update_loop.proofs.feed.Goals as goal

pub returns-then-size-eq0 : goal.returns-then-size-eq0
returns-then-size-eq0 c =
    let a = c.args in
    none_fed a.bitmap.now a.state a.memory.now a.size c.if-size-eq0.true

pub loop-rest-preserved : goal.loop-rest-preserved
loop-rest-preserved c =
    let a = c.args in
    let l = c.loop-rest in
    let parts = c.split_at.ensures in
    let more : 0 < length l.rest.now = search rules in
    let whole : c.after.result - 0 ≡ c.after.result = omega arith in
    let chunk : c.split_at.result.0.now ≡ take (c.after.result - 0) l.rest.now = rw whole parts.front in
    let fed = c.feed_fill-fed.ensures ∙ ap (fill_feed l.state l.memory) chunk in (
      omega arith,
      omega arith,
      rw parts.back (one_fed l.rest.now 0 a.size l.state l.memory (omega arith) more c.after.ensures.0 fed ∙ l.invariant.2),
    )

pub loop-rest-smaller : goal.loop-rest-smaller
loop-rest-smaller c =
    let l = c.loop-rest in
    let more : 0 < length l.rest.now = search rules in
    let some = chunk_some l.rest.now 0 c.args.size (omega arith) more in
    let less : length c.split_at.result.1.now < length l.rest.now = rw (c.split_at.ensures.back, length-drop) (omega (arith, c.after.ensures.0, some)) in
    less

pub returns : goal.returns
returns c =
    let a = c.args in
    let l = c.loop-rest in
    let none : length l.rest.now ≡ 0 = search rules in
    all_fed l.rest.now l.state l.memory a.size 0 (omega arith) ∙ l.invariant.2
