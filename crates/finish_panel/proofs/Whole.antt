-- A whole update: its calls give the things out in order. And a refusal leaves the output.
-- Assumes nothing.
use mathlib.Core.Path.{◌≡◌, refl, sym, ap, ◌∙◌}
use mathlib.Core.Bool.{Bool}
use mathlib.Core.List.{List, ◌++◌}
use Prim.Native.Nat.{ℕ, ◌+◌, ◌≤◌, ◌<◌}
use native.Mathlib.Omega.{arith}
use lib.IntN.{ℤ}
use lib.ListN.{length, replicate, length-replicate, get_or-eq_default}
use lib.Seq.{take_at}
use Rattle.lists.specs.Lists.{overlay}
use Rattle.lists.proofs.Rules.{by_cases}
use Rattle.std.specs.Prelude.{Ok, Err}
use Rattle.finish_panel.specs.declared.Given.TheVariants.{Done}
use Rattle.finish_order.specs.Order.{Thing, write, delay, busy_high, done, things_of, thing_at}
use Rattle.finish_rules.specs.Rules.{normal_good, normal_index, fast_good, fast_index, refusals, Accepted}
use Rattle.finish_panel.specs.Update.{Answer, bytes_of, answer_of, answer_number, answer_value, put_out, too_short, give_out, normal_things, fast_things, normal_update, fast_update, room_for_all, InOrder}
use Rattle.finish_rules.proofs.Rules.{picture_size, none_refused}
use Rattle.finish_panel.proofs.Update.{put, give}
use Rattle.finish_panel.proofs.Ends.{not_done, small}

-- ---- one thing

-- a thing's bytes are as many as its answer says, or none
has_room : (thing : Thing) → length (bytes_of thing) ≤ answer_value (answer_of thing)
has_room (write register bytes) = omega arith
has_room (delay ms) = omega arith
has_room busy_high = omega arith
has_room done = omega arith

pub put-out : (thing : Thing) (out : List ℕ) → put_out (answer_of thing) (overlay (bytes_of thing) out) ≡ bytes_of thing
put-out (write register bytes) out = take_at (bytes_of (write register bytes)) _ (1 + length bytes) (omega arith)
put-out (delay ms) out = refl
put-out busy_high out = refl
put-out done out = refl

-- ---- the calls

-- calls at the counts up to that of the last thing, each with room for every write, of which each keeps the contract
module _ (otp : List ℕ) (index : ℕ) (new second : List ℕ) (good : Bool) (shown : ℕ) (a : Accepted otp good (length new) shown)
    (as_long : length second ≡ length new) (out : ℕ → List ℕ) (answer : ℕ → Answer) (after : ℕ → List ℕ) where
  abbrev things : List Thing
  things = things_of otp index new second

  within : (k : ℕ) → k < length things → answer_value (answer_of (thing_at things k)) ≤ room_for_all
  within k h =
      let size : length new ≤ 48000 = (picture_size (length new) a.picture).1 in
      small otp index new second (omega arith) (omega (arith, as_long)) k h

  gave : (thing : Thing) (room : List ℕ) → answer_value (answer_of thing) ≤ length room
      → give_out (refusals otp good (length new) shown) thing room ≡ (answer_of thing, overlay (bytes_of thing) room)
  gave thing room h =
      let l : length (bytes_of thing) ≤ length room = omega (arith, has_room thing) in
      sym (give thing room (refusals otp good (length new) shown) (none_refused a) (put thing room (overlay (bytes_of thing) room) l refl))

  module _ (room : (k : ℕ) → k ≤ length things → room_for_all ≤ length (out k))
      (called : (k : ℕ) → k ≤ length things → (answer k, after k) ≡ give_out (refusals otp good (length new) shown) (thing_at things k) (out k)) where
    at_count : (k : ℕ) → k < length things
        → ◌≡◌ {A = Answer × List ℕ} (answer k, after k) (answer_of (thing_at things k), overlay (bytes_of (thing_at things k)) (out k))
    at_count k h =
        called k (omega arith) ∙ gave (thing_at things k) (out k) (omega (arith, within k h, room k (omega arith)))

    past_end : answer (length things) ≡ Ok Done
    past_end =
        let n : ℕ = length things in
        let e : thing_at things n ≡ done = get_or-eq_default things done (omega arith) in
        let c : ◌≡◌ {A = Answer × List ℕ} (answer n, after n) (give_out (refusals otp good (length new) shown) done (out n)) =
        rw e at (called n (omega arith)) in
        ap (λ (c : Answer × List ℕ). c.0) (c ∙ gave done (out n) (omega arith))

    pub in_order_lem : InOrder things answer after
    in_order_lem = record {
      answers = λ k h. ap (λ (c : Answer × List ℕ). c.0) (at_count k h);
      puts = λ k h. ap (λ (c : Answer × List ℕ). put_out c.0 c.1) (at_count k h) ∙ put-out (thing_at things k) (out k);
      ends = past_end;
      small = λ k h. rw (ap (λ (c : Answer × List ℕ). c.0) (at_count k h)) (within k h);
      goes_on = λ k h e. not_done otp index new second k h (sym (ap (λ (c : Answer × List ℕ). c.0) (at_count k h)) ∙ e);
    }

-- normal mode, and fast mode
module _ (otp : List ℕ) (temperature : ℤ) (new : List ℕ) (out : ℕ → List ℕ) (answer : ℕ → Answer) (after : ℕ → List ℕ) where
  pub normal_in_order : Accepted otp (normal_good temperature) (length new) (length new)
      → ((k : ℕ) → k ≤ length (normal_things otp temperature new) → room_for_all ≤ length (out k))
      → ((k : ℕ) → k ≤ length (normal_things otp temperature new) → (answer k, after k) ≡ normal_update otp temperature new k (out k))
      → InOrder (normal_things otp temperature new) answer after
  unfolding normal_update
  normal_in_order a room called =
      in_order_lem otp (normal_index temperature) new (replicate (length new) 0) (normal_good temperature) (length new) a (length-replicate (length new) 0)
      out answer after room called

  pub fast_in_order : (shown : List ℕ) → Accepted otp (fast_good temperature) (length new) (length shown)
      → ((k : ℕ) → k ≤ length (fast_things otp temperature new shown) → room_for_all ≤ length (out k))
      → ((k : ℕ) → k ≤ length (fast_things otp temperature new shown) → (answer k, after k) ≡ fast_update otp temperature new shown k (out k))
      → InOrder (fast_things otp temperature new shown) answer after
  unfolding fast_update
  fast_in_order shown a room called =
      in_order_lem otp (fast_index temperature) new shown (fast_good temperature) (length shown) a (sym a.same_size) out answer after room called

-- ---- a refusal leaves the output

pub refused_same : (otp : List ℕ) (good : Bool) (new shown : ℕ) (thing : Thing) (out : List ℕ)
    → let left = give_out (refusals otp good new shown) thing out in (answer_number left.0 ≡ 0 → ⊥) → left.1 ≡ out
unfolding give_out
refused_same otp good new shown thing out =
    by_cases (λ (left : Answer × List ℕ). (answer_number left.0 ≡ 0 → ⊥) → left.1 ≡ out)
    (refusals otp good new shown ++ too_short thing out)
    (λ n. (Err n, out))
    (answer_of thing, overlay (bytes_of thing) out)
    refl
    (λ n _ _. refl)
    (λ _ h. absurd (h refl))
