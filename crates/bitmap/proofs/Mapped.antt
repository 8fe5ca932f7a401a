-- What an array's `map` gives, where each call leaves the closure as it was.
-- Assumes nothing.
use mathlib.Core.Path.{◌≡◌, sym, ap, subst, ◌∙◌}
use mathlib.Core.List.{List, map}
use Prim.Native.Nat.{ℕ, zero, suc, ◌+◌, ◌≤◌, ◌<◌}
use native.Mathlib.Decide.{ℕ_discrete}
use native.Mathlib.Omega.{arith}
use denote.Param.Members.{Mut}
use lib.ListN.{length, get_or, length-map}
use lib.Seq.{ext_get_or}
use Rattle.std.specs.Fn.{Called}
use Rattle.std.specs.Array.{IsMapOf, MapsFrom}
use Rattle.lists.proofs.Elements.{at_map}

module _ {F A B : Type 0} (g : Mut F (A × Unit {0}) B) (h : A → B) (f : F)
    (call : (x : A) (y : B) (q : F) → Called g f (x, tt) y q → (q ≡ f) × (y ≡ h x)) where
  mapped_at : (xs : List A) (ys : List B) (i n : ℕ) → MapsFrom g f xs ys i n
      → (k : ℕ) (d : A) (e : B) → i ≤ k → k < i + n → get_or ys k e ≡ h (get_or xs k d)
  mapped_at xs ys i zero m k d e low high = absurd (omega arith)
  mapped_at xs ys i (suc n) m k d e low high =
      let (q, x, y, at_x, at_y, called, rest) = m in
      let given = call x y q called in
      elim (ℕ_discrete k i) [
        | yes same ↦ rw same (at_y.1 e ∙ given.1 ∙ ap h (sym (at_x.1 d)))
        | no other ↦
            mapped_at xs ys (i + 1) n (subst (λ p. MapsFrom g p xs ys (i + 1) n) given.0 rest) k d e (omega arith) (omega arith)
      ]

  -- the rule's value for each element
  pub mapped : (xs : List A) (ys : List B) (n : ℕ) (d : A) (e : B) → length xs ≡ n → IsMapOf g f xs ys n → ys ≡ map h xs
  mapped xs ys n d e long m =
      ext_get_or e ys (map h xs) (m.long ∙ sym (length-map xs h ∙ long))
      (λ k l. mapped_at xs ys 0 n m.each k d e (omega arith) (omega (arith, m.long)) ∙ at_map h e xs k d (omega (arith, m.long)))
