-- A whole update once more, over calls that keep the contracts as the checker makes them from the source. A contract that is weakened in
-- src/ is refused here, even where every function is still proved.
-- Assumes nothing.
use mathlib.Core.Path.{◌≡◌}
use mathlib.Core.List.{List}
use Prim.Native.Nat.{ℕ, ◌≤◌}
use lib.IntN.{ℤ}
use lib.ListN.{length}
use Rattle.lists.proofs.Calls.{Call, AsksNothing}
use Rattle.finish_rules.specs.Rules.{normal_good, fast_good, Accepted}
use Rattle.finish_panel.specs.Update.{answer_given, normal_things, fast_things, room_for_all, InOrder}
use Rattle.finish_panel.proofs.Whole.{normal_in_order, fast_in_order}
use Rattle.finish_panel.proofs.normal_update.Kinds as normal-kinds
use Rattle.finish_panel.proofs.normal_update.Reads as normal-reads
use Rattle.finish_panel.proofs.fast_update.Kinds as fast-kinds
use Rattle.finish_panel.proofs.fast_update.Reads as fast-reads

-- ---- normal mode

abbrev pub NormalUpdate : Type 0
NormalUpdate = Call 3 normal-kinds.ps normal-kinds.r normal-reads.Learnt

-- a call at a count of an update, with room for every write
pub record AsksNormal (otp : List ℕ) (temperature : ℤ) (new : List ℕ) (k : ℕ) (c : NormalUpdate) : Type 0 where
  pub otp_is : c.args.0.now ≡ otp
  pub temperature_is : c.args.1.0 ≡ temperature
  pub new_is : c.args.1.1.0.now ≡ new
  pub count_is : c.args.1.1.1.0 ≡ k
  pub room : room_for_all ≤ length c.args.1.1.1.1.0.now

pub normal_tied : (otp : List ℕ) (temperature : ℤ) (new : List ℕ) → Accepted otp (normal_good temperature) (length new) (length new)
    → (calls : ℕ → NormalUpdate)
    → ((k : ℕ) → k ≤ length (normal_things otp temperature new) → AsksNormal otp temperature new k (calls k))
    → InOrder (normal_things otp temperature new) (λ k. answer_given (calls k).result) (λ k. (calls k).exit.1.1.1.1.0.now)
normal_tied otp temperature new a calls asks =
    normal_in_order otp temperature new (λ k. (calls k).args.1.1.1.1.0.now) (λ k. answer_given (calls k).result)
    (λ k. (calls k).exit.1.1.1.1.0.now) a
    (λ k h. (asks k h).room)
    (λ k h. rw ((asks k h).otp_is, (asks k h).temperature_is, (asks k h).new_is, (asks k h).count_is) at (calls k).promised)

-- ---- fast mode

abbrev pub FastUpdate : Type 0
FastUpdate = Call 4 fast-kinds.ps fast-kinds.r fast-reads.Learnt

pub record AsksFast (otp : List ℕ) (temperature : ℤ) (new shown : List ℕ) (k : ℕ) (c : FastUpdate) : Type 0 where
  pub otp_is : c.args.0.now ≡ otp
  pub temperature_is : c.args.1.0 ≡ temperature
  pub new_is : c.args.1.1.0.now ≡ new
  pub shown-is : c.args.1.1.1.0.now ≡ shown
  pub count_is : c.args.1.1.1.1.0 ≡ k
  pub room : room_for_all ≤ length c.args.1.1.1.1.1.0.now

pub fast_tied : (otp : List ℕ) (temperature : ℤ) (new shown : List ℕ) → Accepted otp (fast_good temperature) (length new) (length shown)
    → (calls : ℕ → FastUpdate)
    → ((k : ℕ) → k ≤ length (fast_things otp temperature new shown) → AsksFast otp temperature new shown k (calls k))
    → InOrder (fast_things otp temperature new shown) (λ k. answer_given (calls k).result) (λ k. (calls k).exit.1.1.1.1.1.0.now)
fast_tied otp temperature new shown a calls asks =
    fast_in_order otp temperature new (λ k. (calls k).args.1.1.1.1.1.0.now) (λ k. answer_given (calls k).result)
    (λ k. (calls k).exit.1.1.1.1.1.0.now) shown a
    (λ k h. (asks k h).room)
    (λ k h. rw ((asks k h).otp_is, (asks k h).temperature_is, (asks k h).new_is, (asks k h).shown-is, (asks k h).count_is) at (calls k).promised)

-- ---- none of these calls asks anything of what it is given: a `requires` that is added to one is refused here

pub record AskNothing : Type 0 where
  pub normal_update : AsksNothing 3 normal-kinds.ps normal-reads.Asked
  pub fast_update : AsksNothing 4 fast-kinds.ps fast-reads.Asked

pub asks_nothing : AskNothing
asks_nothing = record { normal_update = λ l args. tt; fast_update = λ l args. tt }
