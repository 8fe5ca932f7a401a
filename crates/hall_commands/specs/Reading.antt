-- Change request 2026-12: commands read back into a slot, at the reader's data pointer.
-- Assumes nothing.
use Rattle.std.specs.Prelude.{ℕ, ◌+◌, Bool, not, List, [], ◌∷◌, eqb, leb, ltb, length, get_or, Result}
use Rattle.lists.specs.Lists.{overlay_at}
use Rattle.lists.specs.Rules.{every, Case, case, first_of}
use Rattle.hall_commands.specs.Commands.{data_max, data_in}
use Rattle.refusal.specs.Numbers.{number_given}
use Rattle.refusal.specs.declared.Refusal.{Refusal}
use Rattle.hall_commands.specs.declared.Reader.{Reader}

abbrev pub reader_at : (slot at : ℕ) → Reader
reader_at slot at = record { slot = slot; at = at }

-- what a reading gives back: the number of the refusal or 0, and the reader after it
pub record Reply : Type 0 where
  pub number : ℕ
  pub reader : Reader

abbrev pub reply : (number : ℕ) → Reader → Reply
reply number reader = record { number = number; reader = reader }

-- the same, from what the call answers and the reader that it leaves
abbrev pub reply_of : (after : Reader) → Result (Unit {0}) Refusal → Reply
reply_of after outcome = reply (number_given outcome) after

-- 20 01, the slot, a length of 1 to 251, and that many bytes
abbrev pub upload_tests : (slot : ℕ) (command : List ℕ) → List Bool
upload_tests slot command =
    eqb (get_or command 0 0) 0x20
    ∷ eqb (get_or command 1 0) 0x01
    ∷ eqb (get_or command 2 0) slot
    ∷ leb 1 (get_or command 3 0)
    ∷ leb (get_or command 3 0) data_max
    ∷ eqb (length command) (4 + get_or command 3 0)
    ∷ []

unfoldable pub is_upload : (slot : ℕ) (command : List ℕ) → Bool
is_upload slot command = every (upload_tests slot command)

-- 26 the slot; 27 no such command; 28 overrun: the data does not fit from the pointer on
abbrev pub read_cases : (reader : Reader) (command : List ℕ) (memory_length : ℕ) → List Case
read_cases reader command memory_length =
    case (ltb 255 reader.slot) 26
    ∷ case (not (is_upload reader.slot command)) 27
    ∷ case (ltb memory_length (reader.at + length (data_in command))) 28
    ∷ []

-- a refusal changes nothing; else the data stands at the pointer, which has moved past it
unfoldable pub reading : (reader : Reader) (command memory : List ℕ) → Reply × List ℕ
reading reader command memory =
    first_of (read_cases reader command (length memory))
    (λ number. (reply number reader, memory))
    (reply 0 (reader_at reader.slot (reader.at + length (data_in command))), overlay_at reader.at (data_in command) memory)
