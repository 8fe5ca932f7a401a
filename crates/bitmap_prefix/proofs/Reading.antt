-- A number of which some bytes have come, read byte by byte.
-- Assumes nothing.
use mathlib.Core.Path.{◌≡◌, refl, sym, ◌∙◌}
use mathlib.Core.Bool.{Bool, true, false, ◌&&◌}
use mathlib.Core.List.{List, [], ◌∷◌}
use Prim.Native.Nat.{ℕ, suc, ◌+◌, ◌-◌, ◌/◌, ◌%◌, ◌≤◌, ◌<◌}
use native.Mathlib.Omega.{arith}
use borrow.Author.Tests.{eq-eqb, ne_eqb}
use lib.Dec.{eqb}
use lib.ListN.{length, get_or, drop, drop_of_length-le}
use lib.Seq.{drop-cons}
use Rattle.bitmap.specs.Numbers.{number_bytes}
use Rattle.bitmap_prefix.specs.Begins.{agrees}

pub agrees_none : (l : List ℕ) → agrees l [] ≡ true
agrees_none [] = refl
agrees_none (x ∷ l) = refl

module _ (bytes : List ℕ) (size i at left : ℕ) where
  -- what has come after i bytes of a number begins what is left of it
  abbrev pub left_begins : Bool
  left_begins = agrees (drop (at + i) bytes) (number_bytes (size - i) left)

  -- no more has come
  pub begins_end : length bytes ≤ at + i → true ≡ left_begins
  begins_end h = rw (drop_of_length-le bytes {i = at + i} h)

  -- one byte more, which is as it should be or not
  module _ (more : i < size) (h : at + i < length bytes) where
    split : left_begins
        ≡ (eqb (get_or bytes (at + i) 0) (left % 256) && agrees (drop (at + (i + 1)) bytes) (number_bytes (size - (i + 1)) (left / 256)))
    split =
        let e : size - i ≡ suc (size - (i + 1)) = omega arith in
        let f : at + (i + 1) ≡ suc (at + i) = omega arith in
        rw (e, f, drop-cons bytes (at + i) 0 h)

    pub begins_next : get_or bytes (at + i) 0 ≡ left % 256
        → agrees (drop (at + (i + 1)) bytes) (number_bytes (size - (i + 1)) (left / 256)) ≡ left_begins
    begins_next e = sym (split ∙ rw (eq-eqb (get_or bytes (at + i) 0) (left % 256) e))

    pub begins-not : (get_or bytes (at + i) 0 ≡ left % 256 → ⊥) → false ≡ left_begins
    begins-not e = sym (split ∙ rw (ne_eqb (get_or bytes (at + i) 0) (left % 256) e))
