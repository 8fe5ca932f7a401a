-- A size that is divided at edges: every place in it lies in exactly one part.
-- Assumes nothing.
use mathlib.Core.Path.{◌≡◌, refl, sym}
use mathlib.Core.Bool.{Bool, true, false}
use mathlib.Core.Logic.{⊎_elim}
use Prim.Native.Nat.{ℕ, zero, suc, ◌+◌, ◌-◌, ◌*◌, ◌≤◌, ◌<◌}
use native.Mathlib.Nat.{mul_comm, mul-zero, zero-div, mul-div_cancel, mul-le-mul_left, div-le_of_le-mul, le-div_iff_mul-le, div-mul-le_self, le_trans, eq-or-lt_of_le}
use native.Mathlib.Numerals.{add-one}
use native.Mathlib.Omega.{arith}
use borrow.Author.Tests.{ltb-true, ltb-false}
use lib.Dec.{ltb}
use Rattle.layout.specs.Places.{edge_of}

-- ---- edges

-- an edge lies within the size, and edges do not go back
pub edge_le : (size w total : ℕ) → w ≤ total → edge_of size w total ≤ size
edge_le size w total h = div-le_of_le-mul total (rw (mul_comm total size) (mul-le-mul_left size h))

pub edge_mono : (size v w total : ℕ) → 0 < total → v ≤ w → edge_of size v total ≤ edge_of size w total
edge_mono size v w total some h =
    (le-div_iff_mul-le some).1 (le_trans (div-mul-le_self (size * v) total) (mul-le-mul_left size h))

-- the first edge is 0, the last the size
pub edge_first : (size total : ℕ) → edge_of size 0 total ≡ 0
edge_first size total = rw (mul-zero, zero-div)

pub edge_last : (size total : ℕ) → 0 < total → edge_of size total total ≡ size
edge_last size total some = mul-div_cancel size some

-- ---- parts

-- a number that rising steps pass is passed by one of them
crossed : (edge : ℕ → ℕ) (u k : ℕ) → edge 0 ≤ u → u < edge k → ((j : ℕ) × (j < k) × (edge j ≤ u) × (u < edge (j + 1)))
crossed edge u zero h l = absurd (omega arith)
crossed edge u (suc k) h l = step (ltb u (edge k)) refl (λ m. crossed edge u k h m) where
  step : (t : Bool) → ltb u (edge k) ≡ t → (u < edge k → ((j : ℕ) × (j < k) × (edge j ≤ u) × (u < edge (j + 1))))
      → ((j : ℕ) × (j < suc k) × (edge j ≤ u) × (u < edge (j + 1)))
  step true t before = let r = before (ltb-true u (edge k) t) in (r.0, omega (arith, r.1), r.2, r.3)
  step false t before = (k, omega arith, ltb-false u (edge k) t, rw (add-one k) l)

-- x lies in the part between two edges of a size that begins at `start`
pub record Between (start low high x : ℕ) : Type 0 where
  pub from : start + low ≤ x
  pub to : x < start + low + (high - low)

module _ (start size k x : ℕ) (edge : ℕ → ℕ) (first : edge 0 ≡ 0) (last : edge k ≡ size)
    (rise : (i j : ℕ) → i ≤ j → edge i ≤ edge j) where
  pub part_some : start ≤ x → x < start + size → ((j : ℕ) × (j < k) × Between start (edge j) (edge (j + 1)) x)
  part_some h l =
      let r = crossed edge (x - start) k (omega arith) (omega arith) in
      (r.0, r.1, record { from = omega (arith, r.2); to = omega (arith, r.2, r.3) })

  pub part_whole : (j : ℕ) → j < k → Between start (edge j) (edge (j + 1)) x → ((start ≤ x) × (x < start + size))
  part_whole j h p = (
    omega (arith, p.from),
    omega (arith, p.from, p.to, rise j (j + 1) (omega arith), rise (j + 1) k (omega arith)),
  )

  apart : (i j : ℕ) → i < j → Between start (edge i) (edge (i + 1)) x → Between start (edge j) (edge (j + 1)) x → ⊥
  apart i j h p q = omega (arith, p.to, q.from, rise (i + 1) j (omega arith), rise i (i + 1) (omega arith))

  pub part_one : (i j : ℕ) → Between start (edge i) (edge (i + 1)) x → Between start (edge j) (edge (j + 1)) x → i ≡ j
  part_one i j p q = order (ltb i j) refl (λ l. absurd (apart i j l p q)) (λ l. absurd (apart j i l q p)) where
    order : (t : Bool) → ltb i j ≡ t → (i < j → i ≡ j) → (j < i → i ≡ j) → i ≡ j
    order true t less more = less (ltb-true i j t)
    order false t less more = ⊎_elim sym more (eq-or-lt_of_le (ltb-false i j t))
