-- Mending's answer as one number of 64 bits: the number of the refusal or 0, how many bytes changed, and the offset and the count of the
-- added bytes, 16 bits each, the first in the highest.
-- Assumes nothing.
use Rattle.std.specs.Prelude.{List, ℕ, ◌≤◌, ◌+◌, ◌*◌, ◌/◌, ◌%◌, ◌^◌}
use Rattle.mend.specs.Answers.{Told}

abbrev pub packed : (number changes offset added : ℕ) → ℕ
packed number changes offset added = ((number * 2 ^ 16 + changes) * 2 ^ 16 + offset) * 2 ^ 16 + added

abbrev pub mended_number : Told → ℕ
mended_number answer = packed answer.number answer.changes answer.offset answer.added

-- an answer of which each part fits 16 bits
abbrev pub Small : Told → Type 0
Small answer = (answer.changes ≤ 6398) × (answer.offset ≤ 6398) × (answer.added ≤ 6398)

-- a call's answer as such a number, and the bytes of both outputs after the call
abbrev pub as_number : (called : Told × List ℕ × List ℕ) → ℕ × List ℕ × List ℕ
as_number called = (mended_number called.0, called.1, called.2)

-- the answer that it was made of, as the header's macros take it apart
abbrev pub answer_in : (number : ℕ) → Told
answer_in number =
    record {
      number = number / 2 ^ 48;
      changes = number / 2 ^ 32 % 2 ^ 16;
      offset = number / 2 ^ 16 % 2 ^ 16;
      added = number % 2 ^ 16;
    }
