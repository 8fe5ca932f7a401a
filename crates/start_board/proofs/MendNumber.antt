-- Laws of mending's answer as a number: it fits, and the answer can be taken from it again.
-- Assumes nothing.
use mathlib.Core.Path.{◌≡◌, sym, subst}
use mathlib.Core.List.{List}
use Prim.Native.Nat.{ℕ, ◌/◌, ◌%◌, ◌^◌, ◌≤◌}
use native.Mathlib.Omega.{arith}
use Rattle.mend.specs.Answers.{Told, mending}
use Rattle.mend.proofs.Theorems.{answer-small}
use Rattle.start_board.specs.Mending.{mended_number, as_number, answer_in}

pub answer-fits : (panel : ℕ) (file out list : List ℕ) {a : Told} {out' list' : List ℕ} → (a, out', list') ≡ mending panel file out list
    → (a.changes ≤ 6398) × (a.offset ≤ 6398) × (a.added ≤ 6398)
answer-fits panel file out list e =
    subst (λ (c : Told × List ℕ × List ℕ). (c.0.changes ≤ 6398) × (c.0.offset ≤ 6398) × (c.0.added ≤ 6398)) (sym e)
    (answer-small panel file out list)

pub answered : {called : Told × List ℕ × List ℕ} {a : Told} {out' list' : List ℕ} {n : ℕ} → (a, out', list') ≡ called
    → n ≡ mended_number a → (n, out', list') ≡ as_number called
answered is e = rw (e, ← is)

-- the macros give back the answer that a number was made of
pub answer_back : (a : Told) → a.changes ≤ 6398 → a.offset ≤ 6398 → a.added ≤ 6398 → answer_in (mended_number a) ≡ a
answer_back a p q r =
    let n : ℕ = mended_number a in
    let e₀ : n / 2 ^ 48 ≡ a.number = omega arith in
    let e₁ : n / 2 ^ 32 % 2 ^ 16 ≡ a.changes = omega arith in
    let e₂ : n / 2 ^ 16 % 2 ^ 16 ≡ a.offset = omega arith in
    let e₃ : n % 2 ^ 16 ≡ a.added = omega arith in
    rw (e₀, e₁, e₂, e₃)
