-- Laws of the mended header: the four fields that are mended hold their number or what they held, and all other bytes are the file's.
-- Assumes nothing.
use mathlib.Core.Path.{◌≡◌, refl, sym, ap, ◌∙◌}
use mathlib.Core.Bool.{Bool, true, false, cond, not, ◌||◌}
use mathlib.Core.List.{List, [], ◌∷◌, ◌++◌}
use mathlib.Core.Logic.{⊎_elim}
use Prim.Native.Nat.{ℕ, zero, suc, ◌+◌, ◌*◌, ◌≤◌, ◌<◌}
use native.Mathlib.Omega.{arith}
use borrow.Author.Tests.{leb-true}
use lib.Dec.{leb}
use lib.ListN.{length, get_or, take, drop, length-drop, take-append-drop}
use lib.Seq.{get_or-take, get_or-drop, length-take-le, take-append-le, drop-append-le}
use Rattle.lists.specs.Lists.{overlay_at}
use Rattle.lists.specs.Rules.{every}
use Rattle.lists.proofs.Lists.{length-overlay_at}
use Rattle.lists.proofs.Parts.{part_own, part_before, part_after}
use Rattle.lists.proofs.Rules.{either, holds}
use Rattle.bitmap.specs.Numbers.{number_at, number_bytes}
use Rattle.bitmap.specs.Header.{header_length, file_length, field_good}
use Rattle.bitmap.proofs.Fields.{field_at}
use Rattle.mend.specs.Mending.{mended_header}

-- ---- numbers and parts

number_cong : (size : ℕ) (y z : List ℕ) (at bt : ℕ) → ((i : ℕ) → i < size → get_or y (at + i) 0 ≡ get_or z (bt + i) 0)
    → number_at size y at ≡ number_at size z bt
number_cong zero y z at bt e = refl
number_cong (suc size) y z at bt e =
    let p : at ≡ at + 0 = omega arith in
    let q : bt + 0 ≡ bt = omega arith in
    let first : get_or y at 0 ≡ get_or z bt 0 = ap (λ (n : ℕ). get_or y n 0) p ∙ e 0 (omega arith) ∙ ap (λ (n : ℕ). get_or z n 0) q in
    let rest : number_at size y (suc at) ≡ number_at size z (suc bt) =
    number_cong size y z (suc at) (suc bt)
    (λ i l.
    let f : suc at + i ≡ at + suc i = omega arith in
    let g : bt + suc i ≡ suc bt + i = omega arith in
    ap (λ (n : ℕ). get_or y n 0) f ∙ e (suc i) (omega arith) ∙ ap (λ (n : ℕ). get_or z n 0) g) in
    rw (first, rest)

-- a number is that of its part
pub number_part : (size at : ℕ) (y : List ℕ) → number_at size y at ≡ number_at size (take size (drop at y)) 0
number_part size at y =
    number_cong size y (take size (drop at y)) at 0
    (λ i l.
    let z : 0 + i ≡ i = omega arith in
    sym (ap (λ (n : ℕ). get_or (take size (drop at y)) n 0) z ∙ get_or-take size (drop at y) i 0 l ∙ get_or-drop at y i 0))

pub same_part : (size at : ℕ) (y z : List ℕ) → take size (drop at y) ≡ take size (drop at z) → number_at size y at ≡ number_at size z at
same_part size at y z e = number_part size at y ∙ ap (λ (p : List ℕ). number_at size p 0) e ∙ sym (number_part size at z)

-- a part that ends within the front of a list
pub front_part : (at size : ℕ) (x y : List ℕ) → at + size ≤ length x → take size (drop at (x ++ y)) ≡ take size (drop at x)
front_part at size x y h =
    let l : size ≤ length (drop at x) = simp length-drop (omega arith) in
    ap (take size) (drop-append-le at x y (omega arith)) ∙ take-append-le size (drop at x) y l

-- ---- one field

-- bytes with a number of four bytes put over a field that was not good
abbrev fixed : (good : Bool) (at number : ℕ) (x : List ℕ) → List ℕ
fixed good at number x = cond (not good) (overlay_at at (number_bytes 4 number) x) x

length_fixed : (good : Bool) (at number : ℕ) (x : List ℕ) → at + 4 ≤ length x → length (fixed good at number x) ≡ length x
length_fixed true at number x h = refl
length_fixed false at number x h = length-overlay_at at x (number_bytes 4 number) h

-- its own part, and one apart from it
own : (good : Bool) (at number : ℕ) (x : List ℕ) → at + 4 ≤ length x
    → take 4 (drop at (fixed good at number x)) ≡ cond (not good) (number_bytes 4 number) (take 4 (drop at x))
own true at number x h = refl
own false at number x h = part_own at x (number_bytes 4 number) h 4 refl

abbrev apart : (at bt size : ℕ) → Bool
apart at bt size = leb (bt + size) at || leb (at + 4) bt

off : (good : Bool) (at number : ℕ) (x : List ℕ) (bt size : ℕ) → at + 4 ≤ length x → apart at bt size ≡ true
    → take size (drop bt (fixed good at number x)) ≡ take size (drop bt x)
off true at number x bt size h e = refl
off false at number x bt size h e =
    ⊎_elim
    (λ t. part_before at x (number_bytes 4 number) h bt size (leb-true (bt + size) at t))
    (λ t. part_after at x (number_bytes 4 number) h bt size (leb-true (at + 4) bt t))
    (either (leb (bt + size) at) (leb (at + 4) bt) e)

-- ---- the header

-- a part that is apart from the fields that are mended
abbrev pub spared : (at size : ℕ) → List Bool
spared at size = apart 2 at size ∷ apart 6 at size ∷ apart 34 at size ∷ apart 46 at size ∷ []

module _ (b h s : ℕ) (file : List ℕ) (long : header_length ≤ length file) where
  -- whether the four fields were good
  abbrev pub good2 : Bool
  good2 = field_good file (field_at b h s 1)

  abbrev pub good6 : Bool
  good6 = field_good file (field_at b h s 2)

  abbrev pub good34 : Bool
  good34 = field_good file (field_at b h s 10)

  abbrev pub good46 : Bool
  good46 = field_good file (field_at b h s 13)

  -- the header after each of them
  abbrev x₀ : List ℕ
  x₀ = take header_length file

  abbrev x₁ : List ℕ
  x₁ = fixed good2 2 (file_length h s) x₀

  abbrev x₂ : List ℕ
  x₂ = fixed good6 6 0 x₁

  abbrev x₃ : List ℕ
  x₃ = fixed good34 34 (h * s) x₂

  abbrev x₄ : List ℕ
  x₄ = fixed good46 46 0 x₃

  header-parts : mended_header b h s file ≡ x₄
  unfolding mended_header
  header-parts = refl

  l₀ : length x₀ ≡ 62
  l₀ = length-take-le header_length file long

  l₁ : length x₁ ≡ 62
  l₁ = length_fixed good2 2 (file_length h s) x₀ (omega (arith, l₀)) ∙ l₀

  l₂ : length x₂ ≡ 62
  l₂ = length_fixed good6 6 0 x₁ (omega (arith, l₁)) ∙ l₁

  l₃ : length x₃ ≡ 62
  l₃ = length_fixed good34 34 (h * s) x₂ (omega (arith, l₂)) ∙ l₂

  pub length-header : length (mended_header b h s file) ≡ 62
  length-header = ap length header-parts ∙ length_fixed good46 46 0 x₃ (omega (arith, l₃)) ∙ l₃

  -- a part that none of them reaches is the file's
  front : (at size : ℕ) → at + size ≤ 62 → take size (drop at x₀) ≡ take size (drop at file)
  front at size l =
      sym (front_part at size x₀ (drop header_length file) (omega (arith, l₀)))
      ∙ ap (λ (y : List ℕ). take size (drop at y)) (take-append-drop header_length file)

  module _ (at size : ℕ) where
    off2 : apart 2 at size ≡ true → take size (drop at x₁) ≡ take size (drop at x₀)
    off2 = off good2 2 (file_length h s) x₀ at size (omega (arith, l₀))

    off6 : apart 6 at size ≡ true → take size (drop at x₂) ≡ take size (drop at x₁)
    off6 = off good6 6 0 x₁ at size (omega (arith, l₁))

    off34 : apart 34 at size ≡ true → take size (drop at x₃) ≡ take size (drop at x₂)
    off34 = off good34 34 (h * s) x₂ at size (omega (arith, l₂))

    off46 : apart 46 at size ≡ true → take size (drop at (mended_header b h s file)) ≡ take size (drop at x₃)
    off46 e = ap (λ (y : List ℕ). take size (drop at y)) header-parts ∙ off good46 46 0 x₃ at size (omega (arith, l₃)) e

    pub header_kept : every (spared at size) ≡ true → at + size ≤ 62
        → take size (drop at (mended_header b h s file)) ≡ take size (drop at file)
    header_kept e l =
        off46 (holds 3 (spared at size) e)
        ∙ off34 (holds 2 (spared at size) e)
        ∙ off6 (holds 1 (spared at size) e)
        ∙ off2 (holds 0 (spared at size) e)
        ∙ front at size l

  -- the part of each of the four fields
  pub header_2 : take 4 (drop 2 (mended_header b h s file)) ≡ cond (not good2) (number_bytes 4 (file_length h s)) (take 4 (drop 2 file))
  header_2 =
      off46 2 4 refl
      ∙ off34 2 4 refl
      ∙ off6 2 4 refl
      ∙ own good2 2 (file_length h s) x₀ (omega (arith, l₀))
      ∙ ap (λ (p : List ℕ). cond (not good2) (number_bytes 4 (file_length h s)) p) (front 2 4 (omega arith))

  pub header_6 : take 4 (drop 6 (mended_header b h s file)) ≡ cond (not good6) (number_bytes 4 0) (take 4 (drop 6 file))
  header_6 =
      off46 6 4 refl
      ∙ off34 6 4 refl
      ∙ own good6 6 0 x₁ (omega (arith, l₁))
      ∙ ap (λ (p : List ℕ). cond (not good6) (number_bytes 4 0) p) (off2 6 4 refl ∙ front 6 4 (omega arith))

  pub header_34 : take 4 (drop 34 (mended_header b h s file)) ≡ cond (not good34) (number_bytes 4 (h * s)) (take 4 (drop 34 file))
  header_34 =
      off46 34 4 refl
      ∙ own good34 34 (h * s) x₂ (omega (arith, l₂))
      ∙ ap (λ (p : List ℕ). cond (not good34) (number_bytes 4 (h * s)) p) (off6 34 4 refl ∙ off2 34 4 refl ∙ front 34 4 (omega arith))

  pub header_46 : take 4 (drop 46 (mended_header b h s file)) ≡ cond (not good46) (number_bytes 4 0) (take 4 (drop 46 file))
  header_46 =
      ap (λ (y : List ℕ). take 4 (drop 46 y)) header-parts
      ∙ own good46 46 0 x₃ (omega (arith, l₃))
      ∙ ap (λ (p : List ℕ). cond (not good46) (number_bytes 4 0) p) (off34 46 4 refl ∙ off6 46 4 refl ∙ off2 46 4 refl ∙ front 46 4 (omega arith))
