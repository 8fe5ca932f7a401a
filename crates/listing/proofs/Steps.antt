-- Laws of the lines of steps.
-- Assumes nothing.
use mathlib.Core.Path.{◌≡◌, refl, sym, ap, ◌∙◌}
use mathlib.Core.List.{List, [], ◌∷◌, ◌++◌, append_assoc, append-nil}
use Prim.Native.Nat.{ℕ, zero, suc, ◌+◌, ◌*◌, ◌≤◌}
use native.Mathlib.Numerals.{add-one}
use native.Mathlib.Omega.{arith}
use lib.ListN.{length, take, drop, length-append, length-take}
use lib.Seq.{drop-drop}
use Rattle.panel.specs.Registers.{data_length}
use Rattle.panel.proofs.Registers.{data_length-le}
use Rattle.settings.specs.Settings.{Step, write, wait, step_of, size_of, steps_of, rest_of}
use Rattle.settings.proofs.Steps.{step_cases}
use Rattle.listing.specs.Text.{ascii, newline, hex_byte, spaced_bytes, decimal}
use Rattle.listing.specs.Listing.{step_line, step_lines}
use Rattle.listing.proofs.Text.{length_spaced, decimal_short}

-- ---- the line of one step

-- the data of a write are at most eight bytes
data_le : (register n : ℕ) (s : List ℕ) → n ≡ data_length register → length (take n s) ≤ 8
data_le register n s e = omega (arith, length-take n s, data_length-le register)

-- no line is longer than that of a write of eight bytes
write_short : (register : ℕ) (bytes : List ℕ) → length bytes ≤ 8 → length (step_line (write register bytes)) ≤ 33
write_short register bytes h =
    rw
    (length-append (ascii "write " ++ hex_byte register ++ spaced_bytes bytes) newline, length-append (ascii "write " ++ hex_byte register) (spaced_bytes bytes), length_spaced bytes)
    (omega arith)

wait_short : (ms : ℕ) → length (step_line (wait ms)) ≤ 33
wait_short ms =
    rw (length-append (ascii "wait " ++ decimal ms) newline, length-append (ascii "wait ") (decimal ms))
    (omega (arith, decimal_short ms))

pub line_short : (panel : ℕ) (s : List ℕ) → length (step_line (step_of panel s)) ≤ 33
line_short panel s =
    step_cases panel s (λ step. length (step_line step) ≤ 33)
    (λ r n e some h. write_short r (take n (drop 2 s)) (data_le r n (drop 2 s) e))
    (λ ms h low high. wait_short ms)
    (omega arith)

pub lines_short : (panel n : ℕ) (s : List ℕ) → length (step_lines (steps_of panel n s)) ≤ 33 * n
lines_short panel zero s = omega arith
lines_short panel (suc n) s =
    let rest = drop (size_of (step_of panel s)) s in
    rw (length-append (step_line (step_of panel s)) (step_lines (steps_of panel n rest)))
    (omega (arith, line_short panel s, lines_short panel n rest))

-- ---- one step more

steps_more : (panel i : ℕ) (s : List ℕ) → steps_of panel (suc i) s ≡ steps_of panel i s ++ (step_of panel (rest_of panel i s) ∷ [])
steps_more panel zero s = refl
steps_more panel (suc i) s = ap (λ (ss : List Step). step_of panel s ∷ ss) (steps_more panel i (drop (size_of (step_of panel s)) s))

rest_more : (panel i : ℕ) (s : List ℕ) → rest_of panel (suc i) s ≡ drop (size_of (step_of panel (rest_of panel i s))) (rest_of panel i s)
rest_more panel zero s = refl
rest_more panel (suc i) s = rest_more panel i (drop (size_of (step_of panel s)) s)

lines_more : (steps : List Step) (step : Step) → step_lines (steps ++ (step ∷ [])) ≡ step_lines steps ++ step_line step
lines_more [] step = append-nil (step_line step)
lines_more (s ∷ ss) step = rw (lines_more ss step) (sym (append_assoc (step_line s) (step_lines ss) (step_line step)))

-- one step more: i steps of s are listed, and the next stands at index `next` of the file
module _ (panel : ℕ) (file s : List ℕ) (i next : ℕ) (here : drop next file ≡ rest_of panel i s) where
  pub lines_turn : step_lines (steps_of panel (i + 1) s) ≡ step_lines (steps_of panel i s) ++ step_line (step_of panel (drop next file))
  lines_turn =
      ap (λ (n : ℕ). step_lines (steps_of panel n s)) (add-one i)
      ∙ ap step_lines (steps_more panel i s)
      ∙ lines_more (steps_of panel i s) (step_of panel (rest_of panel i s))
      ∙ ap (λ (r : List ℕ). step_lines (steps_of panel i s) ++ step_line (step_of panel r)) (sym here)

  pub rest_turn : (z : ℕ) → z ≡ size_of (step_of panel (drop next file)) → drop (next + z) file ≡ rest_of panel (i + 1) s
  rest_turn z e = rw (← drop-drop z next file, e, here, add-one i) (sym (rest_more panel i s))
