-- Calls that were made one after the other, each given the state and the memory that the one before it left. `Made` says what it is for a
-- call to have been made: proofs/Tied.antt takes for it that the call keeps its contract, as the source has it.
-- Assumes nothing.
use Rattle.std.specs.Prelude.{ℕ, ◌≡◌, List, [], ◌∷◌}
use Rattle.board.specs.History.{Call, Event, Called}
use Rattle.board.specs.declared.State.{State}

-- the state and the memory that a call was given, the call, and what it left
pub record Parts : Type 0 where
  pub state : State
  pub memory : List ℕ
  pub call : Call
  pub left : Called

-- from a state and a memory, with what was seen of the calls, to the memory at the end
pub data Chain (Made : Parts → Type 0) : State → List ℕ → List Event → List ℕ → Type 0 where
  finished : {s : State} {m : List ℕ} → Chain Made s m [] m
  more : {p : Parts} {events : List Event} {u : List ℕ} → Made p → Chain Made p.left.state p.left.memory events u
      → Chain Made p.state p.memory (p.left.seen ∷ events) u

-- the calls of a chain, in order, and the state that it leaves
abbrev pub calls_of : {Made : Parts → Type 0} {s : State} {m : List ℕ} {events : List Event} {u : List ℕ} → Chain Made s m events u → List Call
calls_of finished = []
calls_of (more {p = p} made rest) = p.call ∷ calls_of rest

abbrev pub end_of : {Made : Parts → Type 0} {s : State} {m : List ℕ} {events : List Event} {u : List ℕ} → Chain Made s m events u → State
end_of {s = s} finished = s
end_of (more made rest) = end_of rest

-- a call was made in a chain, and these calls before it
abbrev pub In : {Made : Parts → Type 0} {s : State} {m : List ℕ} {events : List Event} {u : List ℕ} → Chain Made s m events u
    → (calls : List Call) (p : Parts) → Type 0
In finished calls p = ⊥
In (more {p = q} made rest) [] p = p ≡ q
In (more {p = q} made rest) (call ∷ calls) p = (call ≡ q.call) × In rest calls p
