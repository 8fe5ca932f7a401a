-- Change request 2026-12: the call that gives the command of one number, on any input.
-- Assumes nothing.
use Rattle.std.specs.Prelude.{ℕ, ◌+◌, cond, not, List, [], ◌∷◌, ◌++◌, eqb, ltb, length, take, Option, Some, None, Result, Ok, Err}
use Rattle.lists.specs.Lists.{overlay}
use Rattle.lists.specs.Rules.{Case, case, first_of}
use Rattle.hall_commands.specs.Commands.{data_of, command}
use Rattle.hall_display.specs.Panels.{is_display, image_bytes, header}
use Rattle.refusal.specs.Numbers.{number_of}
use Rattle.refusal.specs.declared.Refusal.{Refusal}
use Rattle.refusal.specs.declared.Refusal.TheVariants as refusals

-- what the call for a command answers: the number of a refusal; the command's length; or that there is none, past the last
pub data Answer : Type 0 where
  Refused : (number : ℕ) → Answer
  Command : (length : ℕ) → Answer
  NoMore : Answer

-- the same, from what the code answers
abbrev pub answer_of : Result (Option ℕ) Refusal → Answer
answer_of (Ok (Some length)) = Command length
answer_of (Ok None) = NoMore
answer_of (Err refusal) = Refused (number_of refusal)

-- the number given back: 0 where the call is accepted
abbrev pub answer_number : Answer → ℕ
answer_number (Refused number) = number
answer_number (Command length) = 0
answer_number NoMore = 0

-- what it brings besides: the number, or the command's length
abbrev pub answer_value : Answer → ℕ
answer_value (Refused number) = number
answer_value (Command length) = length
answer_value NoMore = 0

-- the bytes that were put out, by the answer and the output at exit
abbrev pub put_out : (answer : Answer) (out : List ℕ) → List ℕ
put_out (Refused number) out = []
put_out (Command length) out = take length out
put_out NoMore out = []

-- the call that makes a header: 24, or the header
unfoldable pub make_header : (panel depth : ℕ) → Result (List ℕ) Refusal
make_header panel depth = cond (is_display panel depth) (Ok (header panel depth)) (Err refusals.Display)

-- 24 the panel or the depth; 25 the image's length; 26 the slot
abbrev pub upload_cases : (panel depth image_length slot : ℕ) → List Case
upload_cases panel depth image_length slot =
    case (not (is_display panel depth)) 24
    ∷ case (not (eqb image_length (image_bytes panel depth))) 25
    ∷ case (ltb 255 slot) 26
    ∷ []

-- what is cut into commands: header and image
abbrev pub upload_bytes : (panel depth : ℕ) (image : List ℕ) → List ℕ
upload_bytes panel depth image = header panel depth ++ image

-- the command with some data is put out, 11 where the output is shorter; with no data there is none
abbrev pub giving : (slot : ℕ) (body out : List ℕ) → Answer × List ℕ
giving slot body out =
    cond (eqb (length body) 0) (NoMore, out)
    (first_of (case (ltb (length out) (4 + length body)) 11 ∷ [])
    (λ number. (Refused number, out))
    (Command (4 + length body), overlay (command slot body) out))

-- a refusal leaves the output
unfoldable pub uploading : (panel depth : ℕ) (image : List ℕ) (slot number : ℕ) (out : List ℕ) → Answer × List ℕ
uploading panel depth image slot number out =
    first_of (upload_cases panel depth (length image) slot)
    (λ n. (Refused n, out))
    (giving slot (data_of number (upload_bytes panel depth image)) out)
