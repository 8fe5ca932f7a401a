-- How the events of a list of calls go through the things of a run: each hands out the first of those to come, or none of them.
-- Assumes nothing.
use Rattle.std.specs.Prelude.{ℕ, ◌+◌, ◌≡◌, Bool, true, false, cond, not, ◌&&◌, List, [], ◌∷◌}
use Rattle.poll.specs.HandOut.{Outcome, outcome}
use Rattle.poll.specs.declared.Answer.{Answer}
use Rattle.poll.specs.declared.Answer.TheVariants as answer
use Rattle.board.specs.History.{Call, Part, starts, polls, abandons, no_part, part_of, Given, number, answered, summed, is_accepted, Event, event, call_on}
use Rattle.theorems.specs.Order.{Thing, thing_bytes, thing_answer}
use Rattle.board.specs.declared.State.{State}

-- something was handed out
abbrev pub is_hand_out : Answer → Bool
is_hand_out (answer.Refused n) = false
is_hand_out (answer.Wait ms) = false
is_hand_out (answer.Write n) = true
is_hand_out (answer.Line n) = true
is_hand_out answer.Done = true

abbrev pub hands_out : Given → Bool
hands_out (number n) = false
hands_out (summed n held) = false
hands_out (answered given) = is_hand_out given

-- one event, with the things to come before and after it, for a run that shows a slot
pub data Goes (file : List ℕ) (slot : ℕ) : List Thing → Event → List Thing → Type 0 where
  nothing : {to_come : List Thing} {call : Call} {memory : List ℕ} {given : Given} → hands_out given ≡ false
      → Goes file slot to_come (event call memory given []) to_come
  hands : {call : Call} {memory : List ℕ} (thing : Thing) {rest : List Thing}
      → Goes file slot (thing ∷ rest)
      (event call memory (answered (thing_answer file memory slot thing)) (thing_bytes file memory slot thing)) rest

pub data AllGo (file : List ℕ) (slot : ℕ) : List Thing → List Event → List Thing → Type 0 where
  none : {to_come : List Thing} → AllGo file slot to_come [] to_come
  more : {to_come then rest : List Thing} {e : Event} {es : List Event} → Goes file slot to_come e then → AllGo file slot then es rest
      → AllGo file slot to_come (e ∷ es) rest

-- an accepted start or abandon, after which another run is under way, or none
abbrev pub turns_by : Part → Given → Bool
turns_by (starts slot tick) given = is_accepted given
turns_by (polls tick) given = false
turns_by abandons given = is_accepted given
turns_by no_part given = false

abbrev pub turns : Event → Bool
turns (event call memory given put) = turns_by (part_of call) given

abbrev pub no_turns : List Event → Bool
no_turns [] = true
no_turns (e ∷ es) = not (turns e) && no_turns es

-- the state that a list of calls leaves
abbrev pub state_after : (state : State) (memory : List ℕ) → List Call → State
state_after state memory [] = state
state_after state memory (call ∷ calls) = state_after (call_on state memory call).state (call_on state memory call).memory calls

-- how many of the events handed something out
abbrev pub hand_outs : List Event → ℕ
hand_outs [] = 0
hand_outs (event call memory given put ∷ es) = cond (hands_out given) 1 0 + hand_outs es

-- what a poll of a run answered
abbrev pub answer_in : Outcome → Answer
answer_in (outcome answer phase memory out) = answer
