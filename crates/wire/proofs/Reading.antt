-- A line that was handed out, read back, over any row bytes b and rows h: what it pushes each dot of each row.
-- Assumes nothing.
use mathlib.Core.Path.{◌≡◌, refl, sym, ◌∙◌}
use mathlib.Core.Bool.{Bool, true, false, cond, ◌&&◌}
use mathlib.Core.List.{List, [], ◌∷◌, ◌++◌, append_assoc, map}
use mathlib.Core.Logic.{⊎_elim}
use Prim.Native.Nat.{ℕ, ◌+◌, ◌-◌, ◌*◌, ◌/◌, ◌%◌, ◌<◌}
use native.Mathlib.Nat.{eq-zero-or-pos, zero-div}
use native.Mathlib.Decide.{ℕ_discrete}
use native.Mathlib.Omega.{arith}
use borrow.Author.Tests.{eq-eqb, ne_eqb}
use lib.Dec.{eqb}
use lib.IntN.{ℤ, pos, negsuc}
use lib.ListN.{length, get_or, get_or-append}
use lib.Seq.{get_or-append-add}
use Rattle.lists.specs.Lists.{tabulate}
use Rattle.lists.proofs.Lists.{length-tabulate, get_or-tabulate}
use Rattle.lists.proofs.Cases.{none, more, each}
use Rattle.panel.specs.Codes.{code_by, code_of, scan_mark}
use Rattle.panel.proofs.Codes.{code_lt}
use Rattle.wire.specs.Registers.{register_write}
use Rattle.wire.specs.Line.{pack_codes, even_byte, odd_byte, scan_byte, line, handed_line}
use Rattle.wire.specs.Reading.{pair_of, dot_bits, scan_bits, push_of, is_line, pushed}

-- ---- four codes in a byte, taken out again

each_of_4 : (P : ℕ → Type 0) → P 0 → P 1 → P 2 → P 3 → (k : ℕ) → k < 4 → P k
each_of_4 P a b c d = each P 4 (more (more (more (more none a) b) c) d)

pair_of_codes : (f : ℕ → ℕ) → ((k : ℕ) → f k < 4) → (k : ℕ) → k < 4 → pair_of (pack_codes (f 0) (f 1) (f 2) (f 3)) k ≡ f k
pair_of_codes f l =
    each_of_4 (λ k. pair_of (pack_codes (f 0) (f 1) (f 2) (f 3)) k ≡ f k)
    (omega (arith, l 0, l 1, l 2, l 3))
    (omega (arith, l 0, l 1, l 2, l 3))
    (omega (arith, l 0, l 1, l 2, l 3))
    (omega (arith, l 0, l 1, l 2, l 3))

-- ---- a row's mark in its scan byte, taken out again

pair_of_mark : (r : ℕ) → r < 4 → (k : ℕ) → k < 4 → pair_of (scan_mark r) k ≡ cond (eqb k r) 0b11 0
pair_of_mark =
    each_of_4 (λ r. (k : ℕ) → k < 4 → pair_of (scan_mark r) k ≡ cond (eqb k r) 0b11 0)
    (each_of_4 (λ k. pair_of (scan_mark 0) k ≡ cond (eqb k 0) 0b11 0) refl refl refl refl)
    (each_of_4 (λ k. pair_of (scan_mark 1) k ≡ cond (eqb k 1) 0b11 0) refl refl refl refl)
    (each_of_4 (λ k. pair_of (scan_mark 2) k ≡ cond (eqb k 2) 0b11 0) refl refl refl refl)
    (each_of_4 (λ k. pair_of (scan_mark 3) k ≡ cond (eqb k 3) 0b11 0) refl refl refl refl)

-- two numbers are equal where their quotients and their remainders are
quotient_same : (r y : ℕ) → r / 4 ≡ y / 4 → eqb (r % 4) (y % 4) ≡ eqb r y
quotient_same r y e =
    elim (ℕ_discrete (r % 4) (y % 4)) [
      | yes q ↦ eq-eqb _ _ q ∙ sym (eq-eqb r y (omega arith))
      | no n ↦ ne_eqb _ _ n ∙ sym (ne_eqb r y (λ q. n (rw q)))
    ]

pair_of_scan : (y r : ℕ) → pair_of (scan_byte y (r / 4)) (r % 4) ≡ cond (eqb r y) 0b11 0
unfolding scan_byte
pair_of_scan y r =
    elim (ℕ_discrete (r / 4) (y / 4)) [
      | yes e ↦ rw (eq-eqb _ _ e, ← quotient_same r y e) (pair_of_mark (y % 4) (omega arith) (r % 4) (omega arith))
      | no n ↦ rw (ne_eqb _ _ n, ne_eqb r y (λ q. n (rw q)), zero-div)
    ]

is-marked : (t : Bool) → eqb (cond t 0b11 0) 0b11 ≡ t
is-marked true = refl
is-marked false = refl

-- ---- the bytes of a line, with anything after it

past : (xs ys : List ℕ) (n i : ℕ) → length xs ≡ n → get_or (xs ++ ys) (n + i) 0 ≡ get_or ys i 0
past xs ys n i e = rw e at (get_or-append-add xs ys i 0)

within : (n : ℕ) (f : ℕ → ℕ) (ys : List ℕ) (i : ℕ) → i < n → get_or (tabulate n f ++ ys) i 0 ≡ f i
within n f ys i h =
    get_or-append (tabulate n f) ys 0 i (rw (length-tabulate n f) h) ∙ get_or-tabulate n f i 0 h

module _ (b h stage y : ℕ) (row : ℕ → ℕ) (rest : List ℕ) where
  abbrev code : ℕ → ℕ
  code x = code_of stage (row x)

  abbrev bytes : List ℕ
  bytes = line b h stage y row ++ rest

  parts : bytes
      ≡ tabulate b (even_byte code) ++ (tabulate (h / 4) (scan_byte y) ++ (tabulate b (odd_byte (8 * b) code) ++ rest))
  unfolding line
  parts = simp append_assoc

  at_even : (j : ℕ) → j < b → get_or bytes j 0 ≡ even_byte code j
  at_even j l = rw parts (within b (even_byte code) _ j l)

  at_scan : (i : ℕ) → i < h / 4 → get_or bytes (b + i) 0 ≡ scan_byte y i
  at_scan i l =
      rw parts
      (past (tabulate b (even_byte code)) _ b i (length-tabulate b _) ∙ within (h / 4) (scan_byte y) _ i l)

  at_odd : (k : ℕ) → k < b → get_or bytes (b + h / 4 + k) 0 ≡ odd_byte (8 * b) code k
  at_odd k l =
      let a : b + h / 4 + k ≡ b + (h / 4 + k) = omega arith in
      rw (parts, a)
      (past (tabulate b (even_byte code)) _ b (h / 4 + k) (length-tabulate b _)
      ∙ past (tabulate (h / 4) (scan_byte y)) _ (h / 4) k (length-tabulate (h / 4) _)
      ∙ within b (odd_byte (8 * b) code) rest k l)

  even_dot : (x : ℕ) → x < 8 * b → x % 2 ≡ 0 → pair_of (get_or bytes (x / 8) 0) (x % 8 / 2) ≡ code x
  unfolding even_byte
  even_dot x l e =
      let j : ℕ = x / 8 in
      let f : ℕ → ℕ = λ k. code (8 * j + 2 * k) in
      let z : 8 * j + 2 * 0 ≡ 8 * j = omega arith in
      let p : even_byte code j ≡ pack_codes (f 0) (f 1) (f 2) (f 3) = rw z in
      let w : 8 * j + 2 * (x % 8 / 2) ≡ x = omega arith in
      rw (at_even j (omega arith), p) (pair_of_codes f (λ k. code_lt stage _) (x % 8 / 2) (omega arith) ∙ rw w)

  odd_dot : (x : ℕ) → x < 8 * b → x % 2 ≡ 1
      → pair_of (get_or bytes (b + h / 4 + (8 * b - 1 - x) / 8) 0) ((8 * b - 1 - x) % 8 / 2) ≡ code x
  unfolding odd_byte
  odd_dot x l e =
      let p : ℕ = 8 * b - 1 - x in
      let k : ℕ = p / 8 in
      let f : ℕ → ℕ = λ i. code (8 * b - (2 * i + 1) - 8 * k) in
      let w : 8 * b - (2 * (p % 8 / 2) + 1) - 8 * k ≡ x = omega arith in
      rw (at_odd k (omega arith)) (pair_of_codes f (λ i. code_lt stage _) (p % 8 / 2) (omega arith) ∙ rw w)

  pub dot_bits_lem : (x : ℕ) → x < 8 * b → dot_bits b h bytes x ≡ code x
  unfolding dot_bits
  dot_bits_lem x l =
      ⊎_elim
      (λ (e : x % 2 ≡ 0). rw (eq-eqb _ _ e) (even_dot x l e))
      (λ (o : 0 < x % 2).
      let n : x % 2 ≡ 0 → ⊥ = λ q. omega arith in
      rw (ne_eqb _ _ n) (odd_dot x l (omega arith)))
      (eq-zero-or-pos (x % 2))

  pub scan_bits_lem : (r : ℕ) → h % 4 ≡ 0 → r < h → scan_bits b bytes r ≡ cond (eqb r y) 0b11 0
  unfolding scan_bits
  scan_bits_lem r m l = rw (at_scan (r / 4) (omega arith)) (pair_of_scan y r)

-- ---- what a line pushes a dot of any row: the push of its code in the line's own row, and 0 in another

pub pushed-line : (b h stage y : ℕ) (row : ℕ → ℕ) (x r : ℕ) → h % 4 ≡ 0 → x < 8 * b → r < h
    → pushed b h (handed_line b h stage y row) x r ≡ cond (eqb r y) (push_of (code_of stage (row x))) (pos 0)
unfolding pushed handed_line
pushed-line b h stage y row x r m l u =
    let rest : List ℕ = register_write 0x02 (0x2F ∷ []) in
    rw (scan_bits_lem b h stage y row rest r m u, is-marked (eqb r y), dot_bits_lem b h stage y row rest x l)

-- ---- register writes

-- a write is a line where it goes to register 0x0A
pub write_no_line : (register : ℕ) (bytes : List ℕ) → is_line (register_write register bytes) ≡ eqb register 0x0A
write_no_line register bytes = only (eqb register 0x0A)
  where
    only : (t : Bool) → (true && t && true) ≡ t
    only true = refl
    only false = refl

-- a write to any other register pushes nothing
pub pushed_write : (b h register : ℕ) (bytes : List ℕ) (x y : ℕ) → (register ≡ 0x0A → ⊥)
    → pushed b h (register_write register bytes) x y ≡ pos 0
unfolding pushed
pushed_write b h register bytes x y other = rw (write_no_line register bytes, ne_eqb _ _ other)

-- ---- what stages 1 to 4 push a white dot and a black dot

pub pushes : map {B = ℤ × ℤ} (λ stage. (push_of (code_of stage 1), push_of (code_of stage 0))) (1 ∷ 2 ∷ 3 ∷ 4 ∷ [])
    ≡ (negsuc 0, pos 1) ∷ (pos 1, pos 0) ∷ (negsuc 0, pos 0) ∷ (pos 1, negsuc 0) ∷ []
unfolding push_of code_by
pushes = refl
