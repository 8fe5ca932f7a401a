-- Document 01, "The run and its time" and "Numbers given back": what a poll answers.
-- Assumes nothing.
use Rattle.std.specs.Prelude.{ℕ, List, [], take}
use Rattle.poll.specs.declared.Answer.{Answer}
use Rattle.poll.specs.declared.Answer.TheVariants.{Refused, Write, Line, Wait, Done}

-- the number given back: 0 where the poll is accepted
abbrev pub answer_number : Answer → ℕ
answer_number (Refused number) = number
answer_number (Write n) = 0
answer_number (Line n) = 0
answer_number (Wait ms) = 0
answer_number Done = 0

-- the ms still to go, told by a wait answer; 0 in every other
abbrev pub answer_ms : Answer → ℕ
answer_ms (Refused number) = 0
answer_ms (Write n) = 0
answer_ms (Line n) = 0
answer_ms (Wait ms) = ms
answer_ms Done = 0

-- the bytes that were put out, by the answer and the output at exit
abbrev pub put_out : (answer : Answer) (out : List ℕ) → List ℕ
put_out (Refused number) out = []
put_out (Write n) out = take n out
put_out (Line n) out = take n out
put_out (Wait ms) out = []
put_out Done out = []
