-- Laws of bytes, and of `pack_dots`, `draw` and `over`: a picture is its dots.
-- Assumes nothing.
use mathlib.Core.Path.{◌≡◌, refl, sym, ap, ◌∙◌}
use mathlib.Core.Bool.{Bool, true, false, cond, ◌&&◌}
use mathlib.Core.List.{List, [], ◌∷◌, ◌++◌}
use Prim.Native.Nat.{ℕ, zero, suc, ◌+◌, ◌-◌, ◌*◌, ◌/◌, ◌%◌, ◌^◌, ◌≤◌, ◌<◌}
use native.Mathlib.Nat.{mod-lt, div-lt_iff_lt-mul, div-add-mod'}
use native.Mathlib.Omega.{arith}
use native.Mathlib.Decide.{dec_lt, dec_le, ℕ_discrete}
use lib.Arith.{digits_lt, digits_div, digits_mod}
use lib.Bits.{bit_and, bit_or}
use lib.Dec.{eqb, leb, ltb}
use lib.ListN.{get_or-eq_default, length, get_or, set, take, drop, length-set, length-take}
use lib.Seq.{get_or-set_same, get_or-set_other, get_or-take, get_or-drop}
use borrow.Author.Tests.{lt-ltb, le-ltb, le-leb, lt-leb, eq-eqb, ne_eqb, eqb-true}
use Rattle.lists.specs.Lists.{tabulate, overlay_at}
use Rattle.lists.specs.Rules.{all_below}
use Rattle.lists.proofs.Lists.{length-tabulate, get_or-tabulate, tabulate_cong, is-tabulate, length-overlay_at}
use Rattle.lists.proofs.Parts.{more_rows, part_own, part_before, part_after}
use Rattle.lists.proofs.Rules.{below_all}
use Rattle.lists.proofs.Cases.{none, more, each}
use Rattle.panel.specs.Dots.{bit, row_dot, dot}
use Rattle.panel.proofs.Dots.{bit-lt, dot_row}
use Rattle.picture.specs.Pictures.{pack_dots, turned, draw, over}

-- every element of a list is a byte; every value of a rule is a dot
abbrev pub Bytes : List ℕ → Type 0
Bytes l = (k : ℕ) → get_or l k 0 < 256

abbrev pub Dots : (ℕ → ℕ → ℕ) → Type 0
Dots f = (x y : ℕ) → f x y < 2

pub row_dot_lt : (row : List ℕ) (x : ℕ) → row_dot row x < 2
unfolding row_dot
row_dot_lt row x = bit-lt (get_or row (x / 8) 0) (x % 8)

-- ---- bytes stay bytes

-- beyond a list there is 0, which is a byte
bytes_where : (l : List ℕ) → ((k : ℕ) → k < length l → get_or l k 0 < 256) → Bytes l
bytes_where l e k =
    elim (dec_lt k (length l)) [
      | yes q ↦ e k q
      | no q ↦ rw (get_or-eq_default l 0 {n = k} (omega arith)) (omega arith)
    ]

pub bytes_tabulate : (n : ℕ) (f : ℕ → ℕ) → ((k : ℕ) → f k < 256) → Bytes (tabulate n f)
bytes_tabulate n f e =
    bytes_where (tabulate n f) (λ k q. rw (get_or-tabulate n f k 0 (rw length-tabulate at q)) (e k))

pub bytes_take : (n : ℕ) (l : List ℕ) → Bytes l → Bytes (take n l)
bytes_take n l bytes =
    bytes_where (take n l) (λ k q. rw (get_or-take n l k 0 (omega (arith, length-take n l))) (bytes k))

pub bytes_drop : (n : ℕ) (l : List ℕ) → Bytes l → Bytes (drop n l)
bytes_drop n l bytes k = rw (get_or-drop n l k 0) (bytes (n + k))

pub bytes_append : (l m : List ℕ) → Bytes l → Bytes m → Bytes (l ++ m)
bytes_append [] m p q k = q k
bytes_append (x ∷ l) m p q zero = p 0
bytes_append (x ∷ l) m p q (suc k) = bytes_append l m (λ i. p (suc i)) q k

-- ---- a byte and its dots

pub pack_bits : (byte : ℕ) → byte < 256 → pack_dots (bit byte) ≡ byte
pack_bits byte h = eqb-true (pack_dots (bit byte)) byte (below_all 256 (λ n. eqb (pack_dots (bit n)) n) refl byte h)

pub bit-turned : (byte j : ℕ) → byte < 256 → j < 8 → bit (turned byte) j ≡ 1 - bit byte j
bit-turned byte j hb hj =
    eqb-true (bit (turned byte) j) (1 - bit byte j)
    (below_all 8 (λ i. eqb (bit (turned byte) i) (1 - bit byte i))
    (below_all 256 (λ n. all_below 8 (λ i. eqb (bit (turned n) i) (1 - bit n i))) refl byte hb) j hj)

pub pack_cong : (f g : ℕ → ℕ) → ((j : ℕ) → j < 8 → f j ≡ g j) → pack_dots f ≡ pack_dots g
pack_cong f g e =
    omega (arith, e 0 (omega arith), e 1 (omega arith), e 2 (omega arith), e 3 (omega arith), e 4 (omega arith), e 5 (omega arith), e 6 (omega arith), e 7 (omega arith))

module _ (f : ℕ → ℕ) (d : (j : ℕ) → f j < 2) where
  pub pack_lt : pack_dots f < 256
  pack_lt = omega (arith, d 0, d 1, d 2, d 3, d 4, d 5, d 6, d 7)

  pub bit_pack : (j : ℕ) → j < 8 → bit (pack_dots f) j ≡ f j
  bit_pack =
      let h₀ : f 0 < 2 = d 0 in
      let h₁ : f 1 < 2 = d 1 in
      let h₂ : f 2 < 2 = d 2 in
      let h₃ : f 3 < 2 = d 3 in
      let h₄ : f 4 < 2 = d 4 in
      let h₅ : f 5 < 2 = d 5 in
      let h₆ : f 6 < 2 = d 6 in
      let h₇ : f 7 < 2 = d 7 in
      each (λ j. bit (pack_dots f) j ≡ f j) 8
      (more (more (more (more (more (more (more (more none (omega arith)) (omega arith)) (omega arith)) (omega arith)) (omega arith)) (omega arith)) (omega arith)) (omega arith))

-- a byte with one dot replaced
unfoldable pub with_bit : (byte j new : ℕ) → ℕ
with_bit byte j new = pack_dots (λ i. cond (eqb i j) new (bit byte i))

cond_lt : (t : Bool) (a b n : ℕ) → a < n → b < n → cond t a b < n
cond_lt true a b n p q = p
cond_lt false a b n p q = q

-- the byte as the code makes it, computed for each byte and dot
module _ (byte j : ℕ) (hb : byte < 256) (hj : j < 8) where
  pub or_white : bit_or byte (128 / 2 ^ j) ≡ with_bit byte j 1
  unfolding with_bit
  or_white =
      eqb-true (bit_or byte (128 / 2 ^ j)) (with_bit byte j 1)
      (below_all 8 (λ i. eqb (bit_or byte (128 / 2 ^ i)) (with_bit byte i 1))
      (below_all 256 (λ n. all_below 8 (λ i. eqb (bit_or n (128 / 2 ^ i)) (with_bit n i 1))) refl byte hb) j hj)

  pub and_black : bit_and byte (255 - 128 / 2 ^ j) ≡ with_bit byte j 0
  unfolding with_bit
  and_black =
      eqb-true (bit_and byte (255 - 128 / 2 ^ j)) (with_bit byte j 0)
      (below_all 8 (λ i. eqb (bit_and byte (255 - 128 / 2 ^ i)) (with_bit byte i 0))
      (below_all 256 (λ n. all_below 8 (λ i. eqb (bit_and n (255 - 128 / 2 ^ i)) (with_bit n i 0))) refl byte hb) j hj)

-- ---- a rectangle put over a picture

-- dot u of row v lies in the rectangle of width w and height k at x, y
abbrev pub Inside : (x y w k u v : ℕ) → Type 0
Inside x y w k u v = (x ≤ u) × (u < x + w) × (y ≤ v) × (v < y + k)

pub dec_inside : (x y w k u v : ℕ) → Dec (Inside x y w k u v)
dec_inside x y w k u v = go (dec_le x u) (dec_lt u (x + w)) (dec_le y v) (dec_lt v (y + k))
  where
    go : Dec (x ≤ u) → Dec (u < x + w) → Dec (y ≤ v) → Dec (v < y + k) → Dec (Inside x y w k u v)
    go (yes p) (yes q) (yes r) (yes s) = yes (p, q, r, s)
    go (yes p) (yes q) (yes r) (no s) = no (λ i. s i.3)
    go (yes p) (yes q) (no r) s = no (λ i. r i.2)
    go (yes p) (no q) r s = no (λ i. q i.1)
    go (no p) q r s = no (λ i. p i.0)

module _ (x y w k : ℕ) (new old : ℕ → ℕ → ℕ) (u v : ℕ) where
  pub over_in : Inside x y w k u v → over x y w k new old u v ≡ new (u - x) (v - y)
  unfolding over
  over_in i = simp (le-leb _ _ i.0, lt-ltb _ _ i.1, le-leb _ _ i.2, lt-ltb _ _ i.3)

  pub over-out : (Inside x y w k u v → ⊥) → over x y w k new old u v ≡ old u v
  unfolding over
  over-out n = go (dec_le x u) (dec_lt u (x + w)) (dec_le y v) (dec_lt v (y + k))
    where
      go : Dec (x ≤ u) → Dec (u < x + w) → Dec (y ≤ v) → Dec (v < y + k) → over x y w k new old u v ≡ old u v
      go (yes p) (yes q) (yes r) (yes s) = absurd (n (p, q, r, s))
      go (yes p) (yes q) (yes r) (no s) =
          let l : y + k ≤ v = omega arith in simp (le-leb _ _ p, lt-ltb _ _ q, le-leb _ _ r, le-ltb _ _ l)
      go (yes p) (yes q) (no r) s = let l : v < y = omega arith in simp (le-leb _ _ p, lt-ltb _ _ q, lt-leb _ _ l)
      go (yes p) (no q) r s = let l : x + w ≤ u = omega arith in simp (le-leb _ _ p, le-ltb _ _ l)
      go (no p) q r s = let l : u < x = omega arith in simp (lt-leb _ _ l)

  pub over_cong : (old' : ℕ → ℕ → ℕ) → old u v ≡ old' u v → over x y w k new old u v ≡ over x y w k new old' u v
  unfolding over
  over_cong old' e =
      ap (λ (t : ℕ). cond (leb x u && ltb u (x + w) && leb y v && ltb v (y + k)) (new (u - x) (v - y)) t) e

pub over-lt : (x y w k : ℕ) (new old : ℕ → ℕ → ℕ) → Dots new → Dots old → Dots (over x y w k new old)
over-lt x y w k new old dn dd u v =
    elim (dec_inside x y w k u v) [
      | yes i ↦ rw (over_in x y w k new old u v i) (dn (u - x) (v - y))
      | no n ↦ rw (over-out x y w k new old u v n) (dd u v)
    ]

-- a rectangle, and over it a second: together one rectangle, where the two make it up and the second has the same dots
pub over-over : (x y w k w' k' x'' y'' w'' k'' : ℕ) (new new'' old : ℕ → ℕ → ℕ) (u v : ℕ)
    → (Inside x'' y'' w'' k'' u v → Inside x y w k u v × (new'' (u - x'') (v - y'') ≡ new (u - x) (v - y)))
    → (Inside x y w' k' u v → Inside x y w k u v)
    → (Inside x y w k u v → (Inside x'' y'' w'' k'' u v → ⊥) → Inside x y w' k' u v)
    → over x'' y'' w'' k'' new'' (over x y w' k' new old) u v ≡ over x y w k new old u v
over-over x y w k w' k' x'' y'' w'' k'' new new'' old u v p q r = go (dec_inside x'' y'' w'' k'' u v) (dec_inside x y w k u v)
  where
    go : Dec (Inside x'' y'' w'' k'' u v) → Dec (Inside x y w k u v)
        → over x'' y'' w'' k'' new'' (over x y w' k' new old) u v ≡ over x y w k new old u v
    go (yes i) d =
        over_in x'' y'' w'' k'' new'' (over x y w' k' new old) u v i ∙ (p i).1 ∙ sym (over_in x y w k new old u v (p i).0)
    go (no n) (yes j) =
        over-out x'' y'' w'' k'' new'' (over x y w' k' new old) u v n
        ∙ over_in x y w' k' new old u v (r j n)
        ∙ sym (over_in x y w k new old u v j)
    go (no n) (no m) =
        over-out x'' y'' w'' k'' new'' (over x y w' k' new old) u v n
        ∙ over-out x y w' k' new old u v (λ i. m (q i))
        ∙ sym (over-out x y w k new old u v m)

-- n dots more in a row, and one row more
pub over_part : (x y i n : ℕ) (new part old : ℕ → ℕ → ℕ) → ((u : ℕ) → u < n → part u 0 ≡ new (i + u) 0) → (u v : ℕ)
    → over (x + i) y n 1 part (over x y i 1 new old) u v ≡ over x y (i + n) 1 new old u v
over_part x y i n new part old same u v =
    over-over x y (i + n) 1 i 1 (x + i) y n 1 new part old u v
    (λ j. (
      omega arith,
      let e : i + (u - (x + i)) ≡ u - x = omega arith in
          let f : v - y ≡ 0 = omega arith in
          let g : u - (x + i) < n = omega arith in
          rw f (same (u - (x + i)) g ∙ ap (λ (m : ℕ). new m 0) e),
    ))
    (λ j. omega arith)
    (λ j m. go (dec_lt u (x + i)) j m)
  where
    go : Dec (u < x + i) → Inside x y (i + n) 1 u v → (Inside (x + i) y n 1 u v → ⊥) → Inside x y i 1 u v
    go (yes l) j m = omega arith
    go (no l) j m = absurd (m (omega arith))

pub over_row : (x y w j : ℕ) (new row old : ℕ → ℕ → ℕ) → ((u : ℕ) → u < w → row u 0 ≡ new u j) → (u v : ℕ)
    → over x (y + j) w 1 row (over x y w j new old) u v ≡ over x y w (j + 1) new old u v
over_row x y w j new row old same u v =
    over-over x y w (j + 1) w j x (y + j) w 1 new row old u v
    (λ i. (
      omega arith,
      let e : v - (y + j) ≡ 0 = omega arith in
          let f : v - y ≡ j = omega arith in
          let g : u - x < w = omega arith in
          rw (e, f) (same (u - x) g),
    ))
    (λ i. omega arith)
    (λ i n. go (dec_lt v (y + j)) i n)
  where
    go : Dec (v < y + j) → Inside x y w (j + 1) u v → (Inside x (y + j) w 1 u v → ⊥) → Inside x y w j u v
    go (yes l) i n = omega arith
    go (no l) i n = absurd (n (omega arith))

-- ---- pictures drawn dot by dot

-- where dot j of the byte in column a stands
byte_of : (a j : ℕ) → j < 8 → (a * 8 + j) / 8 ≡ a
byte_of a j h = omega arith

place_of : (a j : ℕ) → j < 8 → (a * 8 + j) % 8 ≡ j
place_of a j h = omega arith

-- the byte that a rule draws at index k
abbrev byte_at : (b : ℕ) (f : ℕ → ℕ → ℕ) (k : ℕ) → ℕ
byte_at b f k = pack_dots (λ j. f (k % b * 8 + j) (k / b))

module _ (b h : ℕ) (pos : 0 < b) where
  pub length-draw : (f : ℕ → ℕ → ℕ) → length (draw b h f) ≡ h * b
  unfolding draw
  length-draw f = length-tabulate (h * b) (byte_at b f)

  pub draw_cong : (f g : ℕ → ℕ → ℕ) → ((x y : ℕ) → x < 8 * b → y < h → f x y ≡ g x y) → draw b h f ≡ draw b h g
  unfolding draw
  draw_cong f g e =
      tabulate_cong (h * b) (byte_at b f) (byte_at b g)
      (λ k l. pack_cong (λ j. f (k % b * 8 + j) (k / b)) (λ j. g (k % b * 8 + j) (k / b))
      (λ j m. e (k % b * 8 + j) (k / b) (omega (arith, mod-lt k pos)) ((div-lt_iff_lt-mul pos).1 l)))

  -- the dots of a picture are those that were drawn
  pub dot_draw : (f : ℕ → ℕ → ℕ) → Dots f → (x y : ℕ) → x < 8 * b → y < h → dot b (draw b h f) x y ≡ f x y
  unfolding draw dot
  dot_draw f d x y hx hy =
      let lx : x / 8 < b = omega arith in
      let m : x % 8 < 8 = omega arith in
      let e : x / 8 * 8 + x % 8 ≡ x = omega arith in
      ap (λ (byte : ℕ). bit byte (x % 8)) (get_or-tabulate (h * b) (byte_at b f) (y * b + x / 8) 0 (digits_lt hy lx))
      ∙ rw (digits_div y lx, digits_mod y lx)
      (bit_pack (λ j. f (x / 8 * 8 + j) y) (λ j. d (x / 8 * 8 + j) y) (x % 8) m ∙ ap (λ (n : ℕ). f n y) e)

  pub bytes_draw : (f : ℕ → ℕ → ℕ) → Dots f → Bytes (draw b h f)
  unfolding draw
  bytes_draw f d = bytes_tabulate (h * b) (byte_at b f) (λ k. pack_lt (λ j. f (k % b * 8 + j) (k / b)) (λ j. d (k % b * 8 + j) (k / b)))

  -- a picture drawn from its own dots
  pub draw_dot : (l : List ℕ) → Bytes l → length l ≡ h * b → draw b h (dot b l) ≡ l
  unfolding draw dot
  draw_dot l d e =
      sym (is-tabulate l (h * b) (byte_at b (dot b l)) e
      (λ k lk.
      sym (pack_cong (λ j. dot b l (k % b * 8 + j) (k / b)) (bit (get_or l k 0))
      (λ j lj. rw (byte_of (k % b) j lj, place_of (k % b) j lj, div-add-mod' k b))
      ∙ pack_bits (get_or l k 0) (d k))))

  -- eight dots of a picture replaced: the byte that holds them is
  pub set_byte : (l : List ℕ) → Bytes l → length l ≡ h * b → (q y : ℕ) (f : ℕ → ℕ) → q < b → y < h → ((u : ℕ) → f u < 2)
      → set l (y * b + q) (pack_dots f) ≡ draw b h (over (q * 8) y 8 1 (λ u _. f u) (dot b l))
  unfolding dot
  set_byte l d e q y f hq hy df =
      sym (draw_dot l' d' (length-set l n (pack_dots f) ∙ e)) ∙ draw_cong (dot b l') (over (q * 8) y 8 1 (λ u _. f u) (dot b l)) same
    where
      n : ℕ
      n = y * b + q

      l' : List ℕ
      l' = set l n (pack_dots f)

      within : n < length l
      within = rw e (digits_lt hy hq)

      d' : Bytes l'
      d' k =
          elim (ℕ_discrete k n) [
            | yes r ↦ rw r (rw (get_or-set_same l n (pack_dots f) 0 within) (pack_lt f df))
            | no r ↦ rw (get_or-set_other l n k (pack_dots f) 0 r) (d k)
          ]

      same : (u v : ℕ) → u < 8 * b → v < h → dot b l' u v ≡ over (q * 8) y 8 1 (λ u _. f u) (dot b l) u v
      same u v hu hv = go (ℕ_discrete (v * b + u / 8) n)
        where
          lu : u / 8 < b
          lu = omega arith

          go : Dec (v * b + u / 8 ≡ n) → dot b l' u v ≡ over (q * 8) y 8 1 (λ u _. f u) (dot b l) u v
          go (yes r) =
              let e₁ : v ≡ y = sym (digits_div v lu) ∙ ap (λ (m : ℕ). m / b) r ∙ digits_div y hq in
              let e₂ : u / 8 ≡ q = sym (digits_mod v lu) ∙ ap (λ (m : ℕ). m % b) r ∙ digits_mod y hq in
              let e₃ : u % 8 ≡ u - q * 8 = omega arith in
              let s : dot b l' u v ≡ bit (pack_dots f) (u % 8) = rw r (ap (λ (m : ℕ). bit m (u % 8)) (get_or-set_same l n (pack_dots f) 0 within)) in
              s ∙ bit_pack f df (u % 8) (omega arith) ∙ ap f e₃
              ∙ sym (over_in (q * 8) y 8 1 (λ u _. f u) (dot b l) u v (omega arith))
          go (no r) =
              ap (λ (m : ℕ). bit m (u % 8)) (get_or-set_other l n (v * b + u / 8) (pack_dots f) 0 r)
              ∙ sym (over-out (q * 8) y 8 1 (λ u _. f u) (dot b l) u v (λ i.
              let e₁ : v ≡ y = omega arith in let e₂ : u / 8 ≡ q = omega arith in r (rw (e₁, e₂))))

  -- one dot of a picture replaced: the byte that holds it has the other seven as before
  pub set-bit : (l : List ℕ) → Bytes l → length l ≡ h * b → (x y new : ℕ) → x < 8 * b → y < h → new < 2
      → set l (y * b + x / 8) (with_bit (get_or l (y * b + x / 8) 0) (x % 8) new) ≡ draw b h (over x y 1 1 (λ _ _. new) (dot b l))
  unfolding dot with_bit
  set-bit l d e x y new hx hy hn =
      set_byte l d e (x / 8) y f (omega arith) hy (λ u. cond_lt (eqb u (x % 8)) new (bit byte u) 2 hn (bit-lt byte u))
      ∙ draw_cong (over (x / 8 * 8) y 8 1 (λ u _. f u) (dot b l)) (over x y 1 1 (λ _ _. new) (dot b l))
      (λ u v hu hv. go u v (dec_inside (x / 8 * 8) y 8 1 u v) (ℕ_discrete u x))
    where
      byte : ℕ
      byte = get_or l (y * b + x / 8) 0

      f : ℕ → ℕ
      f u = cond (eqb u (x % 8)) new (bit byte u)

      go : (u v : ℕ) → Dec (Inside (x / 8 * 8) y 8 1 u v) → Dec (u ≡ x)
          → over (x / 8 * 8) y 8 1 (λ u _. f u) (dot b l) u v ≡ over x y 1 1 (λ _ _. new) (dot b l) u v
      go u v (yes i) (yes r) =
          over_in (x / 8 * 8) y 8 1 (λ u _. f u) (dot b l) u v i
          ∙ ap (λ (t : Bool). cond t new (bit byte (u - x / 8 * 8))) (eq-eqb (u - x / 8 * 8) (x % 8) (omega arith))
          ∙ sym (over_in x y 1 1 (λ _ _. new) (dot b l) u v (omega arith))
      go u v (yes i) (no r) =
          let e₁ : v ≡ y = omega arith in
          let e₂ : u / 8 ≡ x / 8 = omega arith in
          let e₃ : u - x / 8 * 8 ≡ u % 8 = omega arith in
          let s : bit byte (u - x / 8 * 8) ≡ dot b l u v = rw (e₁, e₂, e₃) in
          over_in (x / 8 * 8) y 8 1 (λ u _. f u) (dot b l) u v i
          ∙ ap (λ (t : Bool). cond t new (bit byte (u - x / 8 * 8))) (ne_eqb (u - x / 8 * 8) (x % 8) (λ z. r (omega arith)))
          ∙ s
          ∙ sym (over-out x y 1 1 (λ _ _. new) (dot b l) u v (λ j. r (omega arith)))
      go u v (no m) r =
          over-out (x / 8 * 8) y 8 1 (λ u _. f u) (dot b l) u v m
          ∙ sym (over-out x y 1 1 (λ _ _. new) (dot b l) u v (λ j. m (omega arith)))

  -- a whole row of dots of a picture replaced: the row's bytes are
  pub set_row : (l : List ℕ) → Bytes l → length l ≡ h * b → (row : List ℕ) → Bytes row → length row ≡ b → (y : ℕ) → y < h
      → overlay_at (y * b) row l ≡ draw b h (over 0 y (8 * b) 1 (λ u _. row_dot row u) (dot b l))
  set_row l d e row dr er y hy =
      sym (draw_dot l' d' (length-overlay_at (y * b) l row fits ∙ e)) ∙ draw_cong (dot b l') (over 0 y (8 * b) 1 (λ u _. row_dot row u) (dot b l)) same
    where
      fits : y * b + length row ≤ length l
      fits = omega (arith, more_rows y h b hy, e, er)

      l' : List ℕ
      l' = overlay_at (y * b) row l

      d' : Bytes l'
      d' =
          bytes_append (take (y * b) l) (row ++ drop (length row) (drop (y * b) l)) (bytes_take (y * b) l d)
          (bytes_append row (drop (length row) (drop (y * b) l)) dr (bytes_drop (length row) (drop (y * b) l) (bytes_drop (y * b) l d)))

      -- a row with the bytes that it had has the dots that it had
      kept : (u v : ℕ) → u < 8 * b → take b (drop (v * b) l') ≡ take b (drop (v * b) l) → dot b l' u v ≡ dot b l u v
      kept u v hu q = sym (dot_row b l' u v hu) ∙ ap (λ (r : List ℕ). row_dot r u) q ∙ dot_row b l u v hu

      same : (u v : ℕ) → u < 8 * b → v < h → dot b l' u v ≡ over 0 y (8 * b) 1 (λ u _. row_dot row u) (dot b l) u v
      same u v hu hv = go (dec_lt v y) (dec_lt y v)
        where
          go : Dec (v < y) → Dec (y < v) → dot b l' u v ≡ over 0 y (8 * b) 1 (λ u _. row_dot row u) (dot b l) u v
          go (yes p) q =
              kept u v hu (part_before (y * b) l row fits (v * b) b (more_rows v y b p))
              ∙ sym (over-out 0 y (8 * b) 1 (λ u _. row_dot row u) (dot b l) u v (λ i. omega arith))
          go (no p) (yes q) =
              kept u v hu (part_after (y * b) l row fits (v * b) b (omega (arith, more_rows y v b q, er)))
              ∙ sym (over-out 0 y (8 * b) 1 (λ u _. row_dot row u) (dot b l) u v (λ i. omega arith))
          go (no p) (no q) =
              let f : v ≡ y = omega arith in
              let z : u - 0 ≡ u = omega arith in
              let s : dot b l' u y ≡ row_dot row u = sym (dot_row b l' u y hu) ∙ ap (λ (r : List ℕ). row_dot r u) (part_own (y * b) l row fits b er) in
              rw f (s ∙ sym (over_in 0 y (8 * b) 1 (λ u _. row_dot row u) (dot b l) u y (omega arith) ∙ ap (row_dot row) z))
