-- Laws of a region on one picture: its number, and what it leaves.
-- Assumes nothing.
use mathlib.Core.Path.{◌≡◌, refl, sym}
use mathlib.Core.List.{List}
use Prim.Native.Nat.{ℕ, ◌*◌}
use lib.ListN.{length}
use borrow.Author.Tests.{eq-eqb, ne_eqb}
use Rattle.lists.specs.Rules.{first_of}
use Rattle.lists.proofs.Rules.{taken, some_number, none_of}
use Rattle.picture.specs.Regions.{region_cases, with_region}
use Rattle.by_dots.specs.Regions.{picture_cases, picture_region}

module _ (x y w k : ℕ) (l m : List ℕ) where
  pub refusal_1 : (length m ≡ 176 * 33 → ⊥) → 1 ≡ first_of (picture_cases x y w k l m) (λ n. n) 0
  refusal_1 d = rw (ne_eqb (length m) (176 * 33) d)

  pub refusal_region : length m ≡ 176 * 33 → (r : ℕ) → r ≡ first_of (region_cases 33 176 x y w k l) (λ n. n) 0
      → r ≡ first_of (picture_cases x y w k l m) (λ n. n) 0
  refusal_region e r q = rw (eq-eqb (length m) (176 * 33) e) q

  module _ (r : ℕ) (is : r ≡ first_of (picture_cases x y w k l m) (λ n. n) 0) where
    pub region_refused : (r ≡ 0 → ⊥) → (r, m) ≡ picture_region x y w k l m
    unfolding picture_region
    region_refused = some_number (picture_cases x y w k l m) (λ n. (n, m)) (0, with_region 33 176 m 0 x y w k l) is

    pub region_painted : r ≡ 0 → (m' : List ℕ) → m' ≡ with_region 33 176 m 0 x y w k l → (0, m') ≡ picture_region x y w k l m
    unfolding picture_region
    region_painted z m' e =
        rw e (sym (taken (picture_cases x y w k l m) (λ n. (n, m)) (0, with_region 33 176 m 0 x y w k l) (none_of (picture_cases x y w k l m) refl is z)))
