-- Document 003, 5.6.1.1: the command UploadImageData, and how bytes are cut into such commands.
-- Assumes nothing.
use Rattle.std.specs.Prelude.{ℕ, ◌+◌, ◌*◌, ◌/◌, List, ◌∷◌, length, take, drop}

-- the data bytes of a command, at most
abbrev pub data_max : ℕ
data_max = 251

-- the data of the command of one number, from 0: there is none past the last
abbrev pub data_of : (number : ℕ) (bytes : List ℕ) → List ℕ
data_of number bytes = take data_max (drop (data_max * number) bytes)

-- a command: 20 01, the slot, how many bytes of data, and the data
abbrev pub command : (slot : ℕ) (body : List ℕ) → List ℕ
command slot body = 0x20 ∷ 0x01 ∷ slot ∷ length body ∷ body

-- the data of a command, after its first four bytes
abbrev pub data_in : (command : List ℕ) → List ℕ
data_in command = drop 4 command

-- how many commands n bytes make: n over 251, rounded up
abbrev pub command_count : (n : ℕ) → ℕ
command_count n = (n + 250) / 251
