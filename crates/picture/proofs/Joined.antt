-- Laws of the eight dots of a row from any dot on, as one byte. They speak of dots alone, and not of how a slot keeps its rows.
-- Assumes nothing.
use mathlib.Core.Path.{◌≡◌, refl, sym, ap, ◌∙◌}
use mathlib.Core.Bool.{cond}
use mathlib.Core.List.{List}
use Prim.Native.Nat.{ℕ, ◌+◌, ◌-◌, ◌*◌, ◌/◌, ◌%◌, ◌^◌, ◌≤◌, ◌<◌}
use native.Mathlib.Omega.{arith}
use native.Mathlib.Decide.{dec_lt}
use lib.Bits.{bit_or, or_shifted}
use lib.Dec.{eqb, ltb}
use lib.ListN.{get_or}
use borrow.Author.Tests.{lt-ltb, le-ltb, eqb-true}
use Rattle.lists.specs.Rules.{all_below}
use Rattle.lists.proofs.Rules.{below_all}
use Rattle.lists.proofs.Cases.{none, more, each}
use Rattle.panel.specs.Dots.{bit, row_dot}
use Rattle.picture.specs.Pictures.{pack_dots}
use Rattle.picture.proofs.Pictures.{Bytes, pack_bits, pack_cong}

-- eight dots that begin at dot s of a byte and run into the next: those of the first byte, and those of the second
abbrev from_first : (byte s u : ℕ) → ℕ
from_first byte s u = cond (ltb (s + u) 8) (bit byte (s + u)) 0

abbrev from_second : (byte s u : ℕ) → ℕ
from_second byte s u = cond (ltb (s + u) 8) 0 (bit byte (s + u - 8))

pack_add : (f g : ℕ → ℕ) → pack_dots f + pack_dots g ≡ pack_dots (λ u. f u + g u)
pack_add f g = omega arith

-- what the shifts leave of each byte, computed for each byte and dot
module _ (byte s : ℕ) (hb : byte < 256) (hs : s < 8) where
  pack_first : byte * 2 ^ s % 256 ≡ pack_dots (from_first byte s)
  pack_first =
      eqb-true (byte * 2 ^ s % 256) (pack_dots (from_first byte s))
      (below_all 8 (λ i. eqb (byte * 2 ^ i % 256) (pack_dots (from_first byte i)))
      (below_all 256 (λ n. all_below 8 (λ i. eqb (n * 2 ^ i % 256) (pack_dots (from_first n i)))) refl byte hb) s hs)

  pack_second : byte / 2 ^ (8 - s) ≡ pack_dots (from_second byte s)
  pack_second =
      eqb-true (byte / 2 ^ (8 - s)) (pack_dots (from_second byte s))
      (below_all 8 (λ i. eqb (byte / 2 ^ (8 - i)) (pack_dots (from_second byte i)))
      (below_all 256 (λ n. all_below 8 (λ i. eqb (n / 2 ^ (8 - i)) (pack_dots (from_second n i)))) refl byte hb) s hs)

-- the shifts leave no dot to both bytes
apart : (p q : ℕ) → q < 256 → (s : ℕ) → s < 8 → (p * 2 ^ s % 256 ≡ p % 2 ^ (8 - s) * 2 ^ s) × (q / 2 ^ (8 - s) < 2 ^ s)
apart p q hq =
    each (λ s. (p * 2 ^ s % 256 ≡ p % 2 ^ (8 - s) * 2 ^ s) × (q / 2 ^ (8 - s) < 2 ^ s)) 8
    (more (more (more (more (more (more (more (more none (omega arith)) (omega arith)) (omega arith)) (omega arith)) (omega arith)) (omega arith)) (omega arith)) (omega arith))

-- two bytes joined by shifts hold those eight dots
pub joined : (p q s : ℕ) → p < 256 → q < 256 → s < 8
    → bit_or (p * 2 ^ s % 256) (q / 2 ^ (8 - s)) ≡ pack_dots (λ u. from_first p s u + from_second q s u)
joined p q s hp hq hs =
    let d = apart p q hq s hs in
    ap (λ (n : ℕ). bit_or n (q / 2 ^ (8 - s))) d.0
    ∙ or_shifted (p % 2 ^ (8 - s)) s (q / 2 ^ (8 - s)) d.1
    ∙ ap (λ (n : ℕ). n + q / 2 ^ (8 - s)) (sym d.0 ∙ pack_first p s hp hs)
    ∙ ap (λ (n : ℕ). pack_dots (from_first p s) + n) (pack_second q s hq hs)
    ∙ pack_add (from_first p s) (from_second q s)

-- eight dots of a row, from dot i on
module _ (l : List ℕ) (bytes : Bytes l) (i : ℕ) where
  pub eight_whole : i % 8 ≡ 0 → get_or l (i / 8) 0 ≡ pack_dots (λ u. row_dot l (i + u))
  unfolding row_dot
  eight_whole z =
      sym (pack_bits (get_or l (i / 8) 0) (bytes (i / 8)))
      ∙ pack_cong (bit (get_or l (i / 8) 0)) (λ u. row_dot l (i + u))
      (λ u hu. let e : (i + u) / 8 ≡ i / 8 = omega arith in let f : (i + u) % 8 ≡ u = omega arith in rw (e, f))

  pub eight_joined :
      bit_or (get_or l (i / 8) 0 * 2 ^ (i % 8) % 256) (get_or l (i / 8 + 1) 0 / 2 ^ (8 - i % 8)) ≡ pack_dots (λ u. row_dot l (i + u))
  unfolding row_dot
  eight_joined =
      joined p q (i % 8) (bytes (i / 8)) (bytes (i / 8 + 1)) (omega arith)
      ∙ pack_cong (λ u. from_first p (i % 8) u + from_second q (i % 8) u) (λ u. row_dot l (i + u)) (λ u hu. go u hu (dec_lt (i % 8 + u) 8))
    where
      p : ℕ
      p = get_or l (i / 8) 0

      q : ℕ
      q = get_or l (i / 8 + 1) 0

      go : (u : ℕ) → u < 8 → Dec (i % 8 + u < 8) → from_first p (i % 8) u + from_second q (i % 8) u ≡ row_dot l (i + u)
      go u hu (yes k) =
          let e : (i + u) / 8 ≡ i / 8 = omega arith in
          let f : (i + u) % 8 ≡ i % 8 + u = omega arith in
          let g : from_first p (i % 8) u + from_second q (i % 8) u ≡ bit p (i % 8 + u) = simp (lt-ltb _ _ k) (omega arith) in
          g ∙ rw (e, f)
      go u hu (no k) =
          let e : (i + u) / 8 ≡ i / 8 + 1 = omega arith in
          let f : (i + u) % 8 ≡ i % 8 + u - 8 = omega arith in
          let m : 8 ≤ i % 8 + u = omega arith in
          let g : from_first p (i % 8) u + from_second q (i % 8) u ≡ bit q (i % 8 + u - 8) = simp (le-ltb _ _ m) (omega arith) in
          g ∙ rw (e, f)
