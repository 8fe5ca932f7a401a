-- The next write of a section: which step it is, and that it is a write.
-- Assumes nothing.
use Rattle.std.proofs.Common.{◌≡◌, ℕ, zero, suc, ◌+◌, ◌-◌, ◌≤◌, true, List, [], ◌∷◌, length, get_or, drop, sym, ap, ◌∙◌, arith, length-drop, get_or-drop, ne_eqb}
use mathlib.Core.Bool.{false≢true}
use Rattle.settings.specs.Settings.{Step, write, wait, malformed, all_steps}
use Rattle.settings.specs.Steps.{from_write}
use Rattle.settings.proofs.Steps.{all_from}
use Rattle.run.specs.Conditions.{is_write, after_write}

from_le : (steps : List Step) → length (from_write steps) ≤ length steps
from_le [] = omega arith
from_le (wait ms ∷ steps) = let h = from_le steps in omega arith
from_le (write r d ∷ steps) = omega arith
from_le (malformed ∷ steps) = omega arith

-- the first of the steps from the next write on is a write, and stands where so many steps are left
found_write : (steps rest : List Step) (step : Step) → all_steps steps ≡ true → from_write steps ≡ step ∷ rest → is_write step ≡ true
found_write [] rest step all e = absurd (let z : ◌≡◌ {A = ℕ} 0 1 = cc in omega arith)
found_write (wait ms ∷ steps) rest step all e = found_write steps rest step all e
found_write (write r d ∷ steps) rest step all e = let z : write r d ≡ step = cc in rw (← z)
found_write (malformed ∷ steps) rest step all e = absurd (false≢true all)

found_at : (steps rest : List Step) (step : Step) (i : ℕ) → from_write steps ≡ step ∷ rest → i + suc (length rest) ≡ length steps
    → get_or steps i malformed ≡ step
found_at [] rest step i e h = absurd (let z : ◌≡◌ {A = ℕ} 0 1 = cc in omega arith)
found_at (wait ms ∷ steps) rest step zero e h =
    absurd (let z : length (from_write steps) ≡ suc (length rest) = ap length e in omega (arith, from_le steps))
found_at (wait ms ∷ steps) rest step (suc i) e h = found_at steps rest step i e (omega arith)
found_at (write r d ∷ steps) rest step zero e h = cc
found_at (write r d ∷ steps) rest step (suc i) e h = absurd (let z : suc (length steps) ≡ suc (length rest) = ap length e in omega arith)
found_at (malformed ∷ steps) rest step zero e h = cc
found_at (malformed ∷ steps) rest step (suc i) e h = absurd (let z : suc (length steps) ≡ suc (length rest) = ap length e in omega arith)

-- after the next write from step k on the run stands right after a write, and no longer at the first step
pub past_write : (steps rest : List Step) (step : Step) (k : ℕ) → all_steps steps ≡ true → from_write (drop k steps) ≡ step ∷ rest
    → (length steps - length rest ≡ 0 → ⊥) × (after_write steps (length steps - length rest) ≡ true)
past_write steps rest step k all found =
    let m = length steps - length rest in
    let i = m - 1 - k in
    let some : length (from_write (drop k steps)) ≡ suc (length rest) = ap length found in
    let after : k + suc (length rest) ≤ length steps = omega (arith, from_le (drop k steps), length-drop k steps) in
    let later : (m ≡ 0 → ⊥) = λ z. omega arith in
    let there : m - 1 ≡ k + i = omega arith in
    let at : get_or steps (m - 1) malformed ≡ step =
    ap (λ j. get_or steps j malformed) there
    ∙ sym (get_or-drop k steps i malformed)
    ∙ found_at (drop k steps) rest step i found (omega (arith, length-drop k steps)) in
    (later, rw (ne_eqb m 0 later, at) (found_write (drop k steps) rest step (all_from k steps all) found))
