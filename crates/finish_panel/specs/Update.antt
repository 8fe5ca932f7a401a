-- Change request 2026-04: what the two calls answer, and the output's bytes after them, on any input.
-- Assumes nothing.
use Rattle.std.specs.Prelude.{◌≡◌, List, [], ◌∷◌, ◌++◌, ℕ, ◌+◌, ◌≤◌, ◌<◌, ltb, ℤ, length, take, replicate, Result, Ok, Err}
use Rattle.lists.specs.Lists.{overlay}
use Rattle.lists.specs.Rules.{Case, case, first_of}
use Rattle.finish_order.specs.Order.{Thing, write, delay, busy_high, done, things_of, thing_at}
use Rattle.finish_rules.specs.Rules.{normal_good, normal_index, fast_good, fast_index, refusals}
use Rattle.refusal.specs.Numbers.{number_of}
use Rattle.refusal.specs.declared.Refusal.{Refusal}
use Rattle.finish_panel.specs.declared.Given.{Given}
use Rattle.finish_panel.specs.declared.Given.TheVariants.{Write, Delay, BusyHigh, Done}

-- ---- the answer

-- what a call gives out, or the number of a refusal
abbrev pub Answer : Type 0
Answer = Result Given ℕ

-- the answer that a result stands for
abbrev pub answer_given : Result Given Refusal → Answer
answer_given (Ok given) = Ok given
answer_given (Err refusal) = Err (number_of refusal)

-- the bytes that are put out for a thing: a write is its register, then its data
abbrev pub bytes_of : Thing → List ℕ
bytes_of (write register bytes) = register ∷ bytes
bytes_of (delay ms) = []
bytes_of busy_high = []
bytes_of done = []

-- how a thing is given out
abbrev pub given_of : Thing → Given
given_of (write register bytes) = Write (1 + length bytes)
given_of (delay ms) = Delay ms
given_of busy_high = BusyHigh
given_of done = Done

abbrev pub answer_of : Thing → Answer
answer_of thing = Ok (given_of thing)

-- the number given back: 0 where the call is accepted
abbrev pub answer_number : Answer → ℕ
answer_number (Ok given) = 0
answer_number (Err number) = number

-- the bytes that were put out, by the answer and the output at exit
abbrev pub put_out : (answer : Answer) (out : List ℕ) → List ℕ
put_out (Ok (Write n)) out = take n out
put_out (Ok (Delay ms)) out = []
put_out (Ok BusyHigh) out = []
put_out (Ok Done) out = []
put_out (Err number) out = []

-- what it brings besides: the number, the length put out, or the ms
abbrev pub answer_value : Answer → ℕ
answer_value (Ok (Write n)) = n
answer_value (Ok (Delay ms)) = ms
answer_value (Ok BusyHigh) = 0
answer_value (Ok Done) = 0
answer_value (Err number) = number

-- ---- the calls

-- what is refused where a thing is given out: an output that is shorter than the write
abbrev pub too_short : (thing : Thing) (out : List ℕ) → List Case
too_short thing out = case (ltb (length out) (length (bytes_of thing))) 11 ∷ []

-- a refusal leaves the output; else the answer is the thing's, and its bytes stand first in the output
unfoldable pub give_out : List Case → Thing → (out : List ℕ) → Answer × List ℕ
give_out cases thing out =
    first_of (cases ++ too_short thing out)
    (λ number. (Err number, out))
    (answer_of thing, overlay (bytes_of thing) out)

-- normal mode: zeros go to the second frame
abbrev pub normal_things : (otp : List ℕ) (temperature : ℤ) (new : List ℕ) → List Thing
normal_things otp temperature new = things_of otp (normal_index temperature) new (replicate (length new) 0)

unfoldable pub normal_update : (otp : List ℕ) (temperature : ℤ) (new : List ℕ) (given : ℕ) (out : List ℕ) → Answer × List ℕ
normal_update otp temperature new given out =
    give_out (refusals otp (normal_good temperature) (length new) (length new))
    (thing_at (normal_things otp temperature new) given)
    out

-- fast mode: the shown picture goes to the second frame
abbrev pub fast_things : (otp : List ℕ) (temperature : ℤ) (new shown : List ℕ) → List Thing
fast_things otp temperature new shown = things_of otp (fast_index temperature) new shown

unfoldable pub fast_update : (otp : List ℕ) (temperature : ℤ) (new shown : List ℕ) (given : ℕ) (out : List ℕ) → Answer × List ℕ
fast_update otp temperature new shown given out =
    give_out (refusals otp (fast_good temperature) (length new) (length shown))
    (thing_at (fast_things otp temperature new shown) given)
    out

-- ---- a whole update

-- a length that has room for every write
abbrev pub room_for_all : ℕ
room_for_all = 48001

-- What is promised of an update. The call at count k answered `answer k`, and left its output as `after k`.
pub record InOrder (things : List Thing) (answer : ℕ → Answer) (after : ℕ → List ℕ) : Type 0 where
  -- the things are answered and put out in their order, and done after the last
  pub answers : (k : ℕ) → k < length things → answer k ≡ answer_of (thing_at things k)
  pub puts : (k : ℕ) → k < length things → put_out (answer k) (after k) ≡ bytes_of (thing_at things k)
  pub ends : answer (length things) ≡ Ok Done
  -- no value is longer than the longest write, and no thing is answered as done
  pub small : (k : ℕ) → k < length things → answer_value (answer k) ≤ room_for_all
  pub goes_on : (k : ℕ) → k < length things → answer k ≡ Ok Done → ⊥
