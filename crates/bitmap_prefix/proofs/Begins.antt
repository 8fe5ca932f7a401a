-- What begins with more begins with less, and bytes after a whole header change nothing.
-- Assumes nothing.
use mathlib.Core.Path.{◌≡◌, refl, ap}
use mathlib.Core.Bool.{Bool, true, ◌&&◌, ◌||◌}
use mathlib.Core.List.{List, [], ◌∷◌, ◌++◌, map}
use mathlib.Core.Logic.{⊎_elim}
use Prim.Native.Nat.{ℕ, ◌+◌, ◌≤◌}
use native.Mathlib.Nat.{not-suc-le-zero}
use native.Mathlib.Omega.{arith}
use native.Mathlib.Decide.{dec_le}
use borrow.Author.Tests.{le-leb, leb-true}
use lib.Dec.{eqb, leb}
use lib.ListN.{length, drop, length-append, length-drop, drop_of_length-le}
use lib.Seq.{drop-append-le}
use Rattle.lists.specs.Rules.{every}
use Rattle.lists.proofs.Rules.{and_left, and_right, or_left, or_right, either}
use Rattle.bitmap.specs.declared.Also.{Also}
use Rattle.bitmap.specs.declared.Also.TheVariants.{Only, Or, OrAnything}
use Rattle.bitmap.specs.declared.Field.{Field}
use Rattle.bitmap.specs.Numbers.{number_bytes}
use Rattle.bitmap.specs.Palettes.{black, white}
use Rattle.bitmap.specs.Header.{header_length, file_length, header_fields}
use Rattle.bitmap.proofs.Numbers.{length-number}
use Rattle.bitmap_prefix.specs.Begins.{agrees, number_begins, also_begins, field_begins, palette_begins, header_begins, begins_good}

-- ---- tests that follow from others

-- a test holds where another does
abbrev pub Gives : (a b : Bool) → Type 0
Gives a b = a ≡ true → b ≡ true

pub both : {a b : Bool} → a ≡ true → b ≡ true → (a && b) ≡ true
both p q = rw (p, q)

pub and_gives : {a b c d : Bool} → Gives a c → Gives b d → Gives (a && b) (c && d)
and_gives {a} {b} p q e = both (p (and_left a b e)) (q (and_right a b e))

pub or_gives : {a b c d : Bool} → Gives a c → Gives b d → Gives (a || b) (c || d)
or_gives {a} {b} {c} {d} p q e =
    ⊎_elim (λ (l : a ≡ true). or_left c d (p l)) (λ (r : b ≡ true). or_right c d (q r)) (either a b e)

every_gives : (f g : Field → Bool) → ((x : Field) → Gives (f x) (g x)) → (l : List Field) → Gives (every (map f l)) (every (map g l))
every_gives f g h [] e = e
every_gives f g h (x ∷ l) e =
    and_gives {a = f x} {b = every (map f l)} {c = g x} {d = every (map g l)} (h x) (every_gives f g h l) e

-- ---- the parts of the test

module _ (b h s : ℕ) (bytes : List ℕ) (e : begins_good b h s bytes ≡ true) where
  pub begins-fits : length bytes ≤ file_length h s
  unfolding begins_good
  begins-fits = leb-true (length bytes) (file_length h s) (and_left (leb (length bytes) (file_length h s)) (header_begins b h s bytes) e)

  pub begins-header : header_begins b h s bytes ≡ true
  unfolding begins_good
  begins-header = and_right (leb (length bytes) (file_length h s)) (header_begins b h s bytes) e

-- where the palette begins as it should, the fields decide
pub fields_decide : (b h s : ℕ) (bytes : List ℕ) → palette_begins bytes ≡ true
    → header_begins b h s bytes ≡ every (map (field_begins bytes) (header_fields b h s))
unfolding header_begins
fields_decide b h s bytes e = rw e

-- ---- what begins with more begins with less

agrees_front : (l m other : List ℕ) → Gives (agrees (l ++ m) other) (agrees l other)
agrees_front [] m other e = refl
agrees_front (x ∷ l) m [] e = refl
agrees_front (x ∷ l) m (y ∷ other) e =
    and_gives {a = eqb x y} {b = agrees (l ++ m) other} {c = eqb x y} {d = agrees l other} (λ p. p) (agrees_front l m other) e

module _ (l m : List ℕ) where
  number_front : (size at n : ℕ) → Gives (number_begins size (l ++ m) at n) (number_begins size l at n)
  number_front size at n e =
      elim (dec_le at (length l)) [
        | yes q ↦ agrees_front (drop at l) m (number_bytes size n) (rw (drop-append-le at l m q) at e)
        | no q ↦ rw (drop_of_length-le l {i = at} (omega arith))
      ]

  also_front : (also : Also) (size at : ℕ) → Gives (also_begins also size (l ++ m) at) (also_begins also size l at)
  also_front Only size at e = e
  also_front (Or other) size at e = number_front size at other e
  also_front OrAnything size at e = refl

  field_front : (f : Field) → Gives (field_begins (l ++ m) f) (field_begins l f)
  field_front f = or_gives (number_front f.size f.at f.number) (also_front f.also f.size f.at)

  palette_front : Gives (palette_begins (l ++ m)) (palette_begins l)
  palette_front =
      or_gives
      (and_gives (number_front 3 54 black) (number_front 3 58 white))
      (and_gives (number_front 3 54 white) (number_front 3 58 black))

  pub header_front : (b h s : ℕ) → Gives (header_begins b h s (l ++ m)) (header_begins b h s l)
  unfolding header_begins
  header_front b h s = and_gives palette_front (every_gives (field_begins (l ++ m)) (field_begins l) field_front (header_fields b h s))

  pub begins_front : (b h s : ℕ) → Gives (begins_good b h s (l ++ m)) (begins_good b h s l)
  unfolding begins_good
  begins_front b h s =
      let shorter : Gives (leb (length (l ++ m)) (file_length h s)) (leb (length l) (file_length h s)) =
      λ e. le-leb (length l) (file_length h s) (omega (arith, leb-true (length (l ++ m)) (file_length h s) e, length-append l m)) in
      and_gives shorter (header_front b h s)

-- where nothing has come, a good file can follow
pub begins_empty : (b h s : ℕ) → begins_good b h s [] ≡ true
unfolding begins_good header_begins
begins_empty b h s = both (le-leb 0 (file_length h s) (omega arith)) refl

-- ---- bytes after a whole header change nothing

-- as far as the other list goes
agrees_same : (l m other : List ℕ) → length other ≤ length l → agrees (l ++ m) other ≡ agrees l other
agrees_same [] [] other h = refl
agrees_same [] (x ∷ m) [] h = refl
agrees_same [] (x ∷ m) (y ∷ other) h = absurd (not-suc-le-zero h)
agrees_same (x ∷ l) m [] h = refl
agrees_same (x ∷ l) m (y ∷ other) h = ap (λ (t : Bool). eqb x y && t) (agrees_same l m other (omega arith))

-- a field lies in the header
abbrev pub in_header : Field → Bool
in_header f = leb (f.at + f.size) header_length

module _ (l m : List ℕ) (room : header_length ≤ length l) where
  number_same : (size at n : ℕ) → at + size ≤ header_length → number_begins size (l ++ m) at n ≡ number_begins size l at n
  number_same size at n h =
      rw (drop-append-le at l m (omega arith))
      (agrees_same (drop at l) m (number_bytes size n) (omega (arith, length-number size n, length-drop at l)))

  also_same : (also : Also) (size at : ℕ) → at + size ≤ header_length → also_begins also size (l ++ m) at ≡ also_begins also size l at
  also_same Only size at h = refl
  also_same (Or other) size at h = number_same size at other h
  also_same OrAnything size at h = refl

  fields_same : (fields : List Field) → every (map in_header fields) ≡ true
      → every (map (field_begins (l ++ m)) fields) ≡ every (map (field_begins l) fields)
  fields_same [] e = refl
  fields_same (f ∷ fields) e =
      let h : f.at + f.size ≤ header_length = leb-true _ _ (and_left (in_header f) (every (map in_header fields)) e) in
      rw (
        number_same f.size f.at f.number h,
        also_same f.also f.size f.at h,
        fields_same fields (and_right (in_header f) (every (map in_header fields)) e),
      )

  palette_same : palette_begins (l ++ m) ≡ palette_begins l
  palette_same =
      rw (
        number_same 3 54 black (omega arith),
        number_same 3 58 white (omega arith),
        number_same 3 54 white (omega arith),
        number_same 3 58 black (omega arith),
      )

  pub header_same : (b h s : ℕ) → header_begins b h s (l ++ m) ≡ header_begins b h s l
  unfolding header_begins
  header_same b h s = rw (palette_same, fields_same (header_fields b h s) refl)
