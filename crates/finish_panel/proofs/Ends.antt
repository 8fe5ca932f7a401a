-- How many things an update gives out, and what holds of each: none is `done`, and each has room in the longest output.
-- Assumes nothing.
use mathlib.Core.Path.{◌≡◌, refl, sym, ap, ◌∙◌}
use mathlib.Core.Bool.{Bool, true, false, false≢true}
use mathlib.Core.List.{List, ◌++◌, map, map-append}
use Prim.Native.Nat.{ℕ, zero, suc, ◌+◌, ◌*◌, ◌%◌, ◌≤◌, ◌<◌}
use native.Mathlib.Omega.{arith}
use borrow.Author.Tests.{le-leb, leb-true}
use lib.Dec.{leb}
use lib.ListN.{length, length-append, length-take}
use Rattle.lists.specs.Rules.{every}
use Rattle.lists.proofs.Elements.{at_map}
use Rattle.lists.proofs.Rules.{holds, every_append}
use Rattle.std.specs.Prelude.{Ok, Err}
use Rattle.finish_panel.specs.declared.Given.TheVariants.{Write, Delay, BusyHigh, Done}
use Rattle.finish_order.specs.Order.{Thing, done, otp_byte, otp_bytes, raise, one_repeat, repeats, stage, things_of, thing_at}
use Rattle.finish_panel.specs.Update.{Answer, answer_of, answer_value, room_for_all}
use Rattle.finish_order.specs.Facts.{before_start, after_start, stages_from, from_start}
use Rattle.finish_order.proofs.Order.{stage-length, in_order_lem}

-- ---- how many

abbrev pub repeats_of : (otp : List ℕ) (at : ℕ) → ℕ
repeats_of otp at = otp_byte otp at % 128

-- 41, and four for each repeat of a stage
pub things_length : (otp : List ℕ) (index : ℕ) (new second : List ℕ)
    → length (things_of otp index new second)
    ≡ 41 + 4 * (repeats_of otp 0x28 + repeats_of otp 0x30 + repeats_of otp 0x38 + repeats_of otp 0x40)
things_length otp index new second =
    rw (in_order_lem otp index new second) (simp (length-append, stage-length) (omega arith))

-- ---- a test of every thing

abbrev each : (test : Thing → Bool) (things : List Thing) → Bool
each test things = every (map test things)

module _ (test : Thing → Bool) where
  each_append : (xs ys : List Thing) → each test xs ≡ true → each test ys ≡ true → each test (xs ++ ys) ≡ true
  each_append xs ys p q = rw (map-append, every_append (map test xs) (map test ys), p, q)

  -- where a test holds of every repeat, and of what comes before and after the soft start, it holds of each thing
  module _ (otp : List ℕ) (of-repeat : (at : ℕ) (phases : ℕ × ℕ) → each test (one_repeat otp at phases) ≡ true)
      (of-after : each test after_start ≡ true) where
    each_repeat : (at n : ℕ) (phases : ℕ × ℕ) → each test (repeats otp at n phases) ≡ true
    each_repeat at zero phases = refl
    each_repeat at (suc n) phases =
        let next : ℕ × ℕ = raise otp at phases in
        each_append (one_repeat otp at next) (repeats otp at n next) (of-repeat at next) (each_repeat at n next)

    each_stage : (at n : ℕ) → each test (stages_from otp at n) ≡ true
    unfolding stage
    each_stage at zero = of-after
    each_stage at (suc n) =
        each_append (stage otp at) (stages_from otp (at + 8) n)
        (each_repeat at (repeats_of otp at) (otp_byte otp (at + 1), otp_byte otp (at + 2)))
        (each_stage (at + 8) n)

    each_thing : (index : ℕ) (new second : List ℕ) → each test (before_start otp index new second) ≡ true
        → (k : ℕ) → k < length (things_of otp index new second) → test (thing_at (things_of otp index new second) k) ≡ true
    each_thing index new second of-before k h =
        let things = things_of otp index new second in
        let all : each test things ≡ true =
        rw (in_order_lem otp index new second) (each_append (before_start otp index new second) (from_start otp) of-before (each_stage 0x28 4)) in
        at_map test true things k done h ∙ holds k (map test things) all

-- ---- done is answered only past the last

abbrev goes_on : Answer → Bool
goes_on (Ok (Write n)) = true
goes_on (Ok (Delay ms)) = true
goes_on (Ok BusyHigh) = true
goes_on (Ok Done) = false
goes_on (Err number) = true

pub not_done : (otp : List ℕ) (index : ℕ) (new second : List ℕ) (k : ℕ) → k < length (things_of otp index new second)
    → answer_of (thing_at (things_of otp index new second) k) ≡ Ok Done → ⊥
not_done otp index new second k h e =
    false≢true (ap goes_on (sym e) ∙ each_thing (λ thing. goes_on (answer_of thing)) otp (λ at phases. refl) refl index new second refl k h)

-- ---- the values of the answers are small

abbrev is_small : Thing → Bool
is_small thing = leb (answer_value (answer_of thing)) room_for_all

-- a few bytes of the OTP memory
otp_small : (otp : List ℕ) (at n : ℕ) → n < room_for_all → leb (1 + length (otp_bytes otp at n)) room_for_all ≡ true
otp_small otp at n h = le-leb (1 + length (otp_bytes otp at n)) room_for_all (rw length-take (omega arith))

pub small : (otp : List ℕ) (index : ℕ) (new second : List ℕ) → length new < room_for_all → length second < room_for_all
    → (k : ℕ) → k < length (things_of otp index new second) → answer_value (answer_of (thing_at (things_of otp index new second) k)) ≤ room_for_all
small otp index new second n s k h =
    leb-true _ _ (each_thing is_small otp (λ at phases. rw (le-leb (otp_byte otp (at + 7) % 128) room_for_all (omega arith))) refl index new second
    (rw (
      le-leb (1 + length new) room_for_all (omega arith),
      le-leb (1 + length second) room_for_all (omega arith),
      otp_small otp 0x15 6 (omega arith),
      otp_small otp 0x0C 4 (omega arith),
      otp_small otp 0x12 3 (omega arith),
      otp_small otp 0x1C 1 (omega arith),
      otp_small otp 0x1D 1 (omega arith),
      otp_small otp 0x0B 1 (omega arith),
      otp_small otp 0x1B 1 (omega arith),
      otp_small otp 0x11 1 (omega arith),
      otp_small otp 0x1F 1 (omega arith),
    )) k h)
