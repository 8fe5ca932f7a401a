-- The mended file and its list are no longer than the rooms for the longest.
-- Assumes nothing.
use mathlib.Core.Path.{◌≡◌, sym, ap, ◌∙◌}
use mathlib.Core.List.{List}
use Prim.Native.Nat.{ℕ, ◌+◌, ◌*◌, ◌≤◌}
use native.Mathlib.Omega.{arith}
use lib.ListN.{length}
use Rattle.mend.specs.Answers.{Told, mending}
use Rattle.mend.proofs.Theorems.{answer_sizes}

pub within : (panel : ℕ) (file out list : List ℕ) {r : Told} {out' list' : List ℕ} → (r, out', list') ≡ mending panel file out list
    → r.number ≡ 0 → (length file + r.added ≤ 6398) × (4 * r.changes ≤ 2176)
within panel file out list {r} e z =
    let same : r ≡ (mending panel file out list).0 = ap (λ (x : Told × List ℕ × List ℕ). x.0) e in
    let sizes = answer_sizes panel file out list (ap (λ (x : Told). x.number) (sym same) ∙ z) in
    rw same (sizes.0, omega (arith, sizes.1))
