-- Names for parts of internal contracts. The shown picture is there in fast mode only.
-- Assumes nothing.
use Rattle.std.specs.Prelude.{◌≡◌, ◌+◌, ◌<◌, ◌≤◌, List, ℕ, ℤ, length, set, replicate, Option, Some, None, unwrap_or, Result, Ok, Err}
use Rattle.refusal.specs.declared.Refusal.{Refusal}
use Rattle.refusal.specs.declared.Refusal.TheVariants.{Output}
use Rattle.finish_order.specs.Order.{things_of, thing_at}
use Rattle.finish_rules.specs.Rules.{good_in, index_in, refusals}
use Rattle.finish_rules.specs.declared.Mode.{Mode}
use Rattle.finish_panel.specs.Update.{Answer, give_out}
use Rattle.finish_panel.specs.declared.Given.{Given}
use Rattle.finish_panel.specs.declared.Given.TheVariants.{Write}

-- what goes to the second frame: the shown picture, or n zeros where none is lent
abbrev pub second_frame : (shown : Option (List ℕ)) (n : ℕ) → List ℕ
second_frame (Some shown) n = shown
second_frame None n = replicate n 0

-- the length that has to be the new picture's
abbrev pub shown_length : (shown : Option (List ℕ)) (new : List ℕ) → ℕ
shown_length shown new = length (unwrap_or shown new)

-- what a call answers in a mode, and the output's bytes after it
abbrev pub update_in : Mode → (otp : List ℕ) (temperature : ℤ) (new : List ℕ) (shown : Option (List ℕ)) (given : ℕ) (out : List ℕ)
    → Answer × List ℕ
update_in mode otp temperature new shown given out =
    give_out (refusals otp (good_in mode temperature) (length new) (shown_length shown new))
    (thing_at (things_of otp (index_in mode temperature) new (second_frame shown (length new))) given)
    out

-- a write of n bytes to a register is begun: its register is put out, or there is too little room
abbrev pub Begun : (register n : ℕ) (before : List ℕ) → Result Given Refusal → (after : List ℕ) → Type 0
Begun register n before (Ok given) after = (n < length before) × (given ≡ Write (1 + n)) × (after ≡ set before 0 register)
Begun register n before (Err refusal) after = (length before ≤ n) × (refusal ≡ Output) × (after ≡ before)
