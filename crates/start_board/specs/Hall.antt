-- The hall display's answers as words, its header in a lent output, and what is promised of a whole upload.
-- Assumes nothing.
use Rattle.std.specs.Prelude.{◌≡◌, cond, not, List, [], ◌∷◌, ◌++◌, ℕ, zero, suc, ◌+◌, ◌-◌, ◌≤◌, ◌<◌, eqb, ltb, length, take}
use Rattle.lists.specs.Lists.{overlay}
use Rattle.lists.specs.Rules.{case, first_of}
use Rattle.hall_commands.specs.Commands.{data_in}
use Rattle.hall_commands.specs.Order.{joined}
use Rattle.hall_commands.specs.Reading.{Reply}
use Rattle.hall_display.specs.Panels.{is_display, header}
use Rattle.hall_display.specs.Upload.{Answer, Refused, Command, NoMore, answer_value}
use Rattle.hall_display.specs.Order.{image_commands}
use Rattle.start_board.specs.Words.{word, kind_in, value_in}

-- ---- the answers

-- the header is put out; 24 the panel or the depth, 11 an output that is shorter
unfoldable pub header_put : (panel depth : ℕ) (out : List ℕ) → ℕ × List ℕ
header_put panel depth out =
    first_of (case (not (is_display panel depth)) 24 ∷ case (ltb (length out) 16) 11 ∷ [])
    (λ number. (number, out))
    (0, overlay (header panel depth) out)

-- the kinds of the call for a command, in the order of the enum
abbrev pub command_kind : Answer → ℕ
command_kind (Refused number) = 0
command_kind (Command n) = 1
command_kind NoMore = 2

abbrev pub command_word : Answer → ℕ
command_word answer = word (command_kind answer) (answer_value answer)

-- a reading: the number of a refusal; or how far the data pointer moved, from where it stood
abbrev pub read_word : (at : ℕ) → Reply → ℕ
read_word at reply = cond (eqb reply.number 0) (word 1 (reply.reader.at - at)) (word 0 reply.number)

-- ---- a whole upload

-- the command that was put out, by the answer's word and the output at exit
abbrev pub command_put : (word : ℕ) (out : List ℕ) → List ℕ
command_put word out = take (value_in word) out

-- What is promised of an upload. The numbers 0 to `last` were asked for; the call of number k answered `words k`, and left its output,
-- `out k`, as `after k`.
pub record WordsUploaded (panel depth : ℕ) (image : List ℕ) (last : ℕ) (out : ℕ → List ℕ) (words : ℕ → ℕ) (after : ℕ → List ℕ) : Type 0 where
  -- a command for each number below the length of header and image over 251, rounded up; then there is none
  pub kinds : (k : ℕ) → k < image_commands image → kind_in (words k) ≡ 1
  pub ends : (k : ℕ) → image_commands image ≤ k → k ≤ last → (words k ≡ command_word NoMore) × (after k ≡ out k)
  -- the data of all, joined, is header and image
  pub whole : joined (image_commands image) (λ k. data_in (command_put (words k) (after k))) ≡ header panel depth ++ image

-- The caller keeps the data pointer: it begins at 0, and reading k, whose word is `words k`, moves it.
abbrev pub pointer_at : (words : ℕ → ℕ) (k : ℕ) → ℕ
pointer_at words zero = 0
pointer_at words (suc k) = pointer_at words k + value_in (words k)

-- The slot before reading k, where the reading before left it.
abbrev pub slot_at : (memory : List ℕ) (after : ℕ → List ℕ) (k : ℕ) → List ℕ
slot_at memory after zero = memory
slot_at memory after (suc k) = after k

-- What is promised where an upload's commands are read in order into a slot that is long enough.
pub record WordsRead (panel depth : ℕ) (image memory : List ℕ) (words : ℕ → ℕ) (after : ℕ → List ℕ) : Type 0 where
  pub kinds : (k : ℕ) → k < image_commands image → kind_in (words k) ≡ 1
  -- header and image stand at the slot's front, the rest is as it was, and the pointer stands after them
  pub slot : slot_at memory after (image_commands image) ≡ overlay (header panel depth ++ image) memory
  pub pointer : pointer_at words (image_commands image) ≡ 16 + length image
