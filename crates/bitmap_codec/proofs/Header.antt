-- Laws of the header as it is written field by field.
-- Assumes nothing.
use mathlib.Core.Path.{◌≡◌, refl, sym, ap, ◌∙◌}
use mathlib.Core.List.{List, [], ◌∷◌, ◌++◌, append_assoc, append-nil}
use Prim.Native.Nat.{ℕ, ◌+◌, ◌≤◌, ◌<◌}
use native.Mathlib.Numerals.{add-one}
use native.Mathlib.Omega.{arith}
use borrow.Author.Tests.{eqb-true}
use lib.Dec.{eqb}
use lib.ListN.{length, take}
use lib.Seq.{take-suc}
use Rattle.lists.specs.Lists.{overlay_at}
use Rattle.lists.proofs.Parts.{part_next}
use Rattle.lists.proofs.Rules.{below_all}
use Rattle.bitmap.specs.declared.Field.{Field}
use Rattle.bitmap.specs.Numbers.{number_bytes}
use Rattle.bitmap.specs.Header.{header_length, header_fields}
use Rattle.bitmap.proofs.Fields.{no_field, field_at, field-within}
use Rattle.bitmap_codec.specs.Codec.{fields_bytes}

bytes_append : (fields : List Field) (f : Field) → fields_bytes (fields ++ (f ∷ [])) ≡ fields_bytes fields ++ number_bytes f.size f.number
bytes_append [] f = append-nil (number_bytes f.size f.number)
bytes_append (g ∷ fields) f =
    ap (λ (l : List ℕ). number_bytes g.size g.number ++ l) (bytes_append fields f)
    ∙ sym (append_assoc (number_bytes g.size g.number) (fields_bytes fields) (number_bytes f.size f.number))

module _ (b h s : ℕ) where
  -- the first fields, as bytes
  abbrev pub front : (i : ℕ) → List ℕ
  front i = fields_bytes (take i (header_fields b h s))

  -- each field begins where those before it end
  no_gap : (i : ℕ) → i < 17 → (field_at b h s i).at ≡ length (front i)
  no_gap i low = eqb-true _ _ (below_all 17 (λ k. eqb (field_at b h s k).at (length (front k))) refl i low)

  front_more : (i : ℕ) → i < 17 → front (i + 1) ≡ front i ++ number_bytes (field_at b h s i).size (field_at b h s i).number
  front_more i low =
      rw add-one
      (ap fields_bytes (take-suc (header_fields b h s) i no_field low)
      ∙ bytes_append (take i (header_fields b h s)) (field_at b h s i))

  -- one field more, right after those that are there already
  pub written_next : (i : ℕ) → i < 17 → (f : Field) → f ≡ field_at b h s i → (out : List ℕ) {d e : List ℕ}
      → header_length ≤ length out → d ≡ overlay_at 0 (front i) out → e ≡ overlay_at f.at (number_bytes f.size f.number) d
      → e ≡ overlay_at 0 (front (i + 1)) out
  written_next i low f is out room p q =
      let begins : f.at ≡ length (front i) = ap (λ (g : Field). g.at) is ∙ no_gap i low in
      let ends : f.at + f.size ≤ header_length = rw is (field-within b h s i low) in
      rw (front_more i low, ← is)
      (part_next 0 out (front i) (number_bytes f.size f.number) f.at p q (omega (arith, begins)) (omega arith))
