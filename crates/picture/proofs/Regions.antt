-- Laws of region uploads: what the tests say, and what the painted bytes of a slot leave of the memory.
-- Assumes nothing.
use mathlib.Core.Path.{◌≡◌, refl, sym, ap, ◌∙◌}
use mathlib.Core.Bool.{Bool, true, false, cond, not, ◌&&◌}
use mathlib.Core.List.{List, [], ◌∷◌, ◌++◌}
use Prim.Native.Nat.{ℕ, ◌+◌, ◌-◌, ◌*◌, ◌≤◌, ◌<◌}
use native.Mathlib.Nat.{mul-le-mul}
use native.Mathlib.Decide.{ℕ_discrete}
use native.Mathlib.Omega.{arith}
use lib.Dec.{eqb, leb, ltb}
use lib.ListN.{length, take, drop}
use borrow.Author.Tests.{eq-eqb, ne_eqb, leb-true, eqb-true, not-false}
use Rattle.lists.specs.Rules.{all_below, case, first_of}
use Rattle.lists.proofs.Rules.{and_left, holds}
use Rattle.panel.specs.Dots.{dot}
use Rattle.panel.proofs.Dots.{dot_lt}
use Rattle.picture.specs.Pictures.{over, overdrawn}
use Rattle.picture.specs.Slots.{raw_of, slot_picture, painted}
use Rattle.picture.specs.Regions.{region_good, payload_row, row_clear, payload_good, region_cases, with_region}
use Rattle.picture.proofs.Slots.{Rows, rows-overdrawn, dot_overdrawn, picture_same, picture_other, lent_picture, lent_back}

-- the bytes of a slot, with the panels' bounds
pub slot_small : (b h : ℕ) → b ≤ 33 → h ≤ 176 → h * b ≤ 5808
slot_small b h hb hh = mul-le-mul {n₁ = h} {m₁ = b} {n₂ = 176} {m₂ = 33} hh hb

-- ---- 5

module _ (b h x y w k : ℕ) where
  abbrev tests : List Bool
  tests = leb 1 w ∷ leb 1 k ∷ leb (x + w) (8 * b) ∷ leb (y + k) h ∷ []

  pub region_facts : region_good b h x y w k ≡ true → (1 ≤ w) × (1 ≤ k) × (x + w ≤ 8 * b) × (y + k ≤ h)
  unfolding region_good
  region_facts e = (
    leb-true 1 w (holds 0 tests e),
    leb-true 1 k (holds 1 tests e),
    leb-true (x + w) (8 * b) (holds 2 tests e),
    leb-true (y + k) h (holds 3 tests e),
  )

  -- the same where the code found it
  pub region_found : (good : Bool) → good ≡ region_good b h x y w k → not good ≡ false → (1 ≤ w) × (1 ≤ k) × (x + w ≤ 8 * b) × (y + k ≤ h)
  region_found good r e = region_facts (sym r ∙ not-false good e)

-- ---- 6

module _ (w k : ℕ) (l : List ℕ) where
  pub payload_length : payload_good w k l ≡ true → length l ≡ k * payload_row w
  unfolding payload_good
  payload_length e = eqb-true (length l) (k * payload_row w) (and_left (eqb (length l) (k * payload_row w)) (all_below k (row_clear w l)) e)

  pub payload_short : (length l ≡ k * payload_row w → ⊥) → false ≡ payload_good w k l
  unfolding payload_good
  payload_short e = simp (ne_eqb (length l) (k * payload_row w) e)

  pub payload_rows : length l ≡ k * payload_row w → all_below k (row_clear w l) ≡ payload_good w k l
  unfolding payload_good
  payload_rows e = simp (eq-eqb (length l) (k * payload_row w) e)

-- ---- the number

numbers : (r p : Bool) → first_of (case (not r) 5 ∷ case (not p) 6 ∷ []) (λ n. n) 0 ≡ 0 → (r ≡ true) × (p ≡ true)
numbers true true e = (refl, refl)
numbers true false e = absurd (omega arith)
numbers false p e = absurd (omega arith)

module _ (b h x y w k : ℕ) (l : List ℕ) where
  -- a region with no number is good
  pub no_number : first_of (region_cases b h x y w k l) (λ n. n) 0 ≡ 0 → (region_good b h x y w k ≡ true) × (payload_good w k l ≡ true)
  no_number = numbers (region_good b h x y w k) (payload_good w k l)

-- ---- the memory

-- a lent slot that comes back painted leaves the memory with the region
pub region_painted : (b h : ℕ) → 0 < b → (m : List ℕ) (slot x y w k : ℕ) (l p : List ℕ)
    → p ≡ painted b h (take (slot * (h * b) + h * b - slot * (h * b)) (drop (slot * (h * b)) m)) x y w k (dot (payload_row w) l)
    → take (slot * (h * b)) m ++ (p ++ drop (slot * (h * b) + h * b - slot * (h * b)) (drop (slot * (h * b)) m))
    ≡ with_region b h m slot x y w k l
unfolding with_region painted
region_painted b h pos m slot x y w k l p e =
    let new : ℕ → ℕ → ℕ = dot (payload_row w) l in
    let old : List ℕ = slot_picture b h m slot in
    lent_back b h m slot (overdrawn b h old x y w k new) p (rows-overdrawn b h pos old x y w k new (dot_lt (payload_row w) l)).0
    (e ∙ ap (λ (z : List ℕ). raw_of b h (overdrawn b h z x y w k new)) (lent_picture b h m slot))

-- ---- every dot of the memory

-- a region changes those dots of that slot and no others
module _ (b h : ℕ) (pos : 0 < b) (m : List ℕ) (slot : ℕ) (fits : slot * (h * b) + h * b ≤ length m) (x y w k : ℕ) (l : List ℕ) where
  pub region_dots : (t u v : ℕ) → u < 8 * b → v < h
      → dot b (slot_picture b h (with_region b h m slot x y w k l) t) u v
      ≡ cond (eqb t slot && (leb x u && ltb u (x + w) && leb y v && ltb v (y + k)))
      (dot (payload_row w) l (u - x) (v - y))
      (dot b (slot_picture b h m t) u v)
  unfolding with_region over
  region_dots t u v hu hv =
      let old : List ℕ = slot_picture b h m slot in
      let new : ℕ → ℕ → ℕ = dot (payload_row w) l in
      let p : List ℕ = overdrawn b h old x y w k new in
      let r : Rows b h p = rows-overdrawn b h pos old x y w k new (dot_lt (payload_row w) l) in
      elim (ℕ_discrete t slot) [
        | yes e ↦
            rw (e, eq-eqb slot slot refl, picture_same b h m slot fits pos p r)
            (dot_overdrawn b h pos old x y w k new (dot_lt (payload_row w) l) u v hu hv)
        | no n ↦ rw (ne_eqb t slot n, picture_other b h m slot fits p r.0 t n)
      ]
