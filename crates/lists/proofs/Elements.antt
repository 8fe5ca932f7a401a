-- The k-th element of two lists that are joined, and of a table that is read through a rule.
-- Assumes nothing.
use mathlib.Core.Path.{◌≡◌, refl, ap, ◌∙◌}
use mathlib.Core.List.{List, [], ◌∷◌, ◌++◌, map}
use Prim.Native.Nat.{ℕ, zero, suc, ◌+◌, ◌-◌, ◌≤◌, ◌<◌}
use native.Mathlib.Nat.{not-suc-le-zero, le_of_suc-le-suc}
use native.Mathlib.Omega.{arith}
use lib.ListN.{length, get_or, get_or-append}
use lib.Seq.{get_or-append-add}

module _ {A : Type 0} (xs ys : List A) (d : A) (k : ℕ) where
  pub at_left : k < length xs → get_or (xs ++ ys) k d ≡ get_or xs k d
  at_left h = get_or-append xs ys d k h

  pub at_right : length xs ≤ k → get_or (xs ++ ys) k d ≡ get_or ys (k - length xs) d
  at_right h =
      let e : k ≡ length xs + (k - length xs) = omega arith in
      ap (λ (n : ℕ). get_or (xs ++ ys) n d) e ∙ get_or-append-add xs ys (k - length xs) d

-- the rule's value for an entry is the entry of what the rule makes of the whole table
pub at_map : {A B : Type 0} (f : A → B) (e : B) (l : List A) (k : ℕ) (d : A) → k < length l → f (get_or l k d) ≡ get_or (map f l) k e
at_map f e [] k d h = absurd (not-suc-le-zero h)
at_map f e (x ∷ l) zero d h = refl
at_map f e (x ∷ l) (suc k) d h = at_map f e l k d (le_of_suc-le-suc h)
