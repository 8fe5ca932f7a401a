-- The finish panels' answers as words, and what is promised of a whole update.
-- Assumes nothing.
use Rattle.std.specs.Prelude.{◌≡◌, List, ℕ, ◌<◌, length, take, Ok, Err}
use Rattle.finish_order.specs.Order.{Thing, thing_at}
use Rattle.finish_panel.specs.Update.{Answer, bytes_of, answer_of, answer_value}
use Rattle.finish_panel.specs.declared.Given.TheVariants.{Write, Delay, BusyHigh, Done}
use Rattle.start_board.specs.Words.{word, kind_in, value_in}

-- the kinds: a refusal, then those of the enum in its order
abbrev pub finish_kind : Answer → ℕ
finish_kind (Err number) = 0
finish_kind (Ok (Write n)) = 1
finish_kind (Ok (Delay ms)) = 2
finish_kind (Ok BusyHigh) = 3
finish_kind (Ok Done) = 4

abbrev pub finish_word : Answer → ℕ
finish_word answer = word (finish_kind answer) (answer_value answer)

-- What is promised of an update. The call at count k answered `words k`, and left its output as `after k`.
pub record WordsInOrder (things : List Thing) (words : ℕ → ℕ) (after : ℕ → List ℕ) : Type 0 where
  -- the header's macros give each thing's kind and value, and the thing's bytes stand first in the output; then comes done
  pub kinds : (k : ℕ) → k < length things → kind_in (words k) ≡ finish_kind (answer_of (thing_at things k))
  pub values : (k : ℕ) → k < length things → value_in (words k) ≡ answer_value (answer_of (thing_at things k))
  pub puts : (k : ℕ) → k < length things → take (length (bytes_of (thing_at things k))) (after k) ≡ bytes_of (thing_at things k)
  pub ends : words (length things) ≡ finish_word (Ok Done)
