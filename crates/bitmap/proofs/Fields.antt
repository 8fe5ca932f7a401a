-- Laws of the table of fields, of the code's table of entries, and of a loop that asks each field.
-- Assumes nothing.
use mathlib.Core.Path.{◌≡◌, refl, sym, ap, subst, ◌∙◌}
use mathlib.Core.Bool.{Bool, true, false, ◌&&◌}
use mathlib.Core.List.{List, [], ◌∷◌, map}
use Prim.Native.Nat.{ℕ, zero, suc, ◌+◌, ◌≤◌, ◌<◌}
use native.Mathlib.Numerals.{add-one}
use native.Mathlib.Omega.{arith}
use borrow.Author.Tests.{eq-eqb, leb-true}
use lib.Dec.{leb}
use lib.ListN.{length, get_or, take, length-map}
use Rattle.std.specs.List.{list_all}
use Rattle.lists.specs.Rules.{every}
use Rattle.lists.proofs.Elements.{at_map}
use Rattle.lists.proofs.Rules.{and_left, and_right, broken, below_all}
use Rattle.bitmap.specs.declared.Field.{Field}
use Rattle.bitmap.specs.declared.Entry.{Entry}
use Rattle.bitmap.specs.declared.Also.TheVariants.{Only}
use Rattle.bitmap.specs.declared.Number.TheVariants.{FileLength}
use Rattle.bitmap.specs.Numbers.{number_at}
use Rattle.bitmap.specs.Table.{field_of}
use Rattle.bitmap.specs.Header.{header_length, field, header_fields, field_good}

-- what stands for a field and an entry where a table has none
abbrev pub no_field : Field
no_field = field 0 0 0 Only

abbrev pub no_entry : Entry
no_entry = record { 0 = 0; 1 = 0; 2 = FileLength; 3 = Only }

-- the field at place i of the table
abbrev pub field_at : (b h s i : ℕ) → Field
field_at b h s i = get_or (header_fields b h s) i no_field

-- a field lies in the header
pub field-within : (b h s i : ℕ) → i < 17 → (field_at b h s i).at + (field_at b h s i).size ≤ header_length
field-within b h s i low =
    leb-true _ _ (below_all 17 (λ k. leb ((field_at b h s k).at + (field_at b h s k).size) header_length) refl i low)

-- and has at most four bytes
pub field-small : (b h s i : ℕ) → i < 17 → (field_at b h s i).size ≤ 4
field-small b h s i low = leb-true _ _ (below_all 17 (λ k. leb (field_at b h s k).size 4) refl i low)

-- a field that reads as the number that is written there is good
pub held : (file : List ℕ) (f : Field) → number_at f.size file f.at ≡ f.number → field_good file f ≡ true
held file f e = rw (eq-eqb _ f.number e)

-- a test of each field
abbrev pub tests : (test : Field → Bool) (b h s : ℕ) → List Bool
tests test b h s = map test (header_fields b h s)

-- one test more that holds
every_next : (k : ℕ) (tests : List Bool) → every (take k tests) ≡ true → get_or tests k true ≡ true → every (take (suc k) tests) ≡ true
every_next k [] e f = refl
every_next zero (t ∷ ts) e f = rw f
every_next (suc k) (t ∷ ts) e f =
    rw (and_left t (every (take k ts)) e) (every_next k ts (and_right t (every (take k ts)) e) f)

-- the table of entries, of which each gives the field at its place
module _ (b h s : ℕ) (table : List Entry) (whole : map (field_of b h s) table ≡ header_fields b h s) where
  table_long : length table ≡ 17
  table_long = sym (length-map table (field_of b h s)) ∙ ap length whole

  pub entry_at : (i : ℕ) → i < 17 → (d : Entry) → field_of b h s (get_or table i d) ≡ field_at b h s i
  entry_at i low d =
      at_map (field_of b h s) no_field table i d (omega (arith, table_long)) ∙ ap (λ (l : List Field). get_or l i no_field) whole

  -- an entry that stands at a place of the table gives a field that lies in the header
  pub entry-within : (entry : Entry) (i : ℕ) → i < length table → entry ≡ get_or table i entry
      → ((field_of b h s entry).size ≤ 4) × ((field_of b h s entry).at + (field_of b h s entry).size ≤ header_length)
  entry-within entry i low e =
      let short : i < 17 = omega (arith, table_long) in
      let here : field_of b h s entry ≡ field_at b h s i = ap (field_of b h s) e ∙ entry_at i short entry in
      subst (λ (f : Field). (f.size ≤ 4) × (f.at + f.size ≤ header_length)) (sym here) (field-small b h s i short, field-within b h s i short)

  -- a test of the field of each entry is one of each field
  pub each_entry : (test : Field → Bool) → list_all (λ entry. test (field_of b h s entry)) table ≡ every (tests test b h s)
  each_entry test = go table ∙ ap (λ (l : List Field). every (map test l)) whole where
    go : (entries : List Entry) → list_all (λ entry. test (field_of b h s entry)) entries ≡ every (map test (map (field_of b h s) entries))
    go [] = refl
    go (entry ∷ entries) = ap (λ (t : Bool). test (field_of b h s entry) && t) (go entries)

-- a loop that asks each field
module _ (test : Field → Bool) (b h s i : ℕ) (low : i < 17) (f : Field) (e : f ≡ field_at b h s i) where
  test_at : test f ≡ get_or (tests test b h s) i true
  test_at = ap test e ∙ at_map test true (header_fields b h s) i no_field low

  -- a field of which it does not hold is enough
  pub field_bad : test f ≡ false → every (tests test b h s) ≡ false
  field_bad g = broken i (tests test b h s) (sym test_at ∙ g)

  -- one field more of which it holds
  pub field_next : every (take i (tests test b h s)) ≡ true → test f ≡ true → every (take (i + 1) (tests test b h s)) ≡ true
  field_next all g = rw add-one (every_next i (tests test b h s) all (sym test_at ∙ g))
