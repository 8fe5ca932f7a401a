-- A call for C that answers one of several things gives back one number of 32 bits, a word: its top byte is the answer's kind, and its low
-- 24 bits are the answer's value. Kind 0 is a refusal, whose value is the number; the other kinds follow in the order of the answer's enum.
-- Assumes nothing.
use Rattle.std.specs.Prelude.{List, ℕ, ◌+◌, ◌*◌, ◌/◌, ◌%◌, ◌^◌}

abbrev pub word : (kind value : ℕ) → ℕ
word kind value = kind * 2 ^ 24 + value

-- a call's answer as a word, and the output's bytes after the call
abbrev pub as_word : {Answer : Type 0} (word_of : Answer → ℕ) (called : Answer × List ℕ) → ℕ × List ℕ
as_word word_of called = (word_of called.0, called.1)

-- a word taken apart, as EPD_KIND and EPD_VALUE of the header do
abbrev pub kind_in : (word : ℕ) → ℕ
kind_in word = word / 2 ^ 24

abbrev pub value_in : (word : ℕ) → ℕ
value_in word = word % 2 ^ 24
