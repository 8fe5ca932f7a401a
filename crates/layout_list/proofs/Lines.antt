-- Laws of the leaves' lines, and what the program may take for granted of an answer.
-- Assumes nothing.
use mathlib.Core.Path.{◌≡◌, refl, sym}
use mathlib.Core.List.{List, [], ◌∷◌, ◌++◌, append_assoc, append-nil}
use Prim.Native.Nat.{ℕ, zero, suc, ◌+◌, ◌-◌, ◌/◌, ◌%◌, ◌^◌, ◌≤◌, ◌<◌}
use native.Mathlib.Nat.{pow-le-pow_right}
use native.Mathlib.Numerals.{add-one}
use native.Mathlib.Omega.{arith}
use borrow.Author.Tests.{lt-ltb}
use lib.ListN.{length, get_or, take, replicate, get_or-append}
use Rattle.io.specs.Digits.{hex_digit_ascii, last_digits, IsDigitCount}
use Rattle.listing.specs.Text.{digit, decimal}
use lib.Seq.{take-suc}
use Rattle.panel.specs.Panels.{width_of, rows_of}
use Rattle.listing.proofs.Text.{decimal_1, decimal_2, decimal_3}
use Rattle.lists.proofs.Cases.{entry_lt}
use Rattle.panel.proofs.Panels.{rows-le}
use Rattle.layout_rules.specs.Boxes.{box_count}
use Rattle.layout.specs.Answer.{nowhere, leaves_of, layout_of, answer_given}
use Rattle.layout.specs.Tiling.{Inside}
use Rattle.layout_rules.proofs.Boxes.{good_framed}
use Rattle.layout.proofs.Answer.{length-padded, leaves_le}
use Rattle.layout.proofs.Tiling.{accepted, leaves_tile}
use Rattle.layout.specs.declared.Rect.{Rect}
use Rattle.layout.specs.declared.Leaves.{Leaves}
use Rattle.std.specs.Prelude.{Result, Ok, Err, IfOk}
use Rattle.refusal.specs.declared.Refusal.{Refusal}
use Rattle.layout_list.specs.Text.{leaf_line, leaf_lines, answer_text, layout_text, Drawn}

lines_append : (left right : List Rect) → leaf_lines (left ++ right) ≡ leaf_lines left ++ leaf_lines right
lines_append [] right = refl
lines_append (r ∷ left) right = rw (lines_append left right) (sym (append_assoc (leaf_line r) (leaf_lines left) (leaf_lines right)))

-- one line more
pub lines_more : (rects : List Rect) (i : ℕ) → i < length rects
    → leaf_lines (take i rects) ++ leaf_line (get_or rects i nowhere) ≡ leaf_lines (take (i + 1) rects)
lines_more rects i h =
    rw (add-one i, take-suc rects i nowhere h, lines_append (take i rects) (get_or rects i nowhere ∷ []), append-nil (leaf_line (get_or rects i nowhere)))

-- ---- a number

-- the kit's digit below 10 is ours
glyph_digit : (d : ℕ) → d < 10 → hex_digit_ascii d ≡ digit d
glyph_digit d h = rw (lt-ltb d 10 h)

-- a number below 1,000 has three digits at most
fewest_long : (n k : ℕ) → n < 1000 → IsDigitCount 10 1 n (suc (suc (suc (suc k)))) → ⊥
fewest_long n k h f =
    let l : 10 ^ 3 ≤ 10 ^ suc (suc (suc k)) = pow-le-pow_right {n = 10} (omega arith) {i = 3} {j = suc (suc (suc k))} (omega arith) in
    let e : suc (suc (suc (suc k))) - 1 ≡ suc (suc (suc k)) = omega arith in
    let g : 10 ^ suc (suc (suc k)) ≤ n = rw e at (f.2 (omega arith)) in
    omega arith

-- the fewest digits of a number below 1,000 are its text
pub fewest_decimal : (n k : ℕ) → n < 1000 → IsDigitCount 10 1 n k → last_digits 10 k n ≡ decimal n
fewest_decimal n zero h f = absurd (omega (arith, f.0))
fewest_decimal n (suc zero) h f = decimal_1 n (glyph_digit (n % 10) (omega arith)) f.1
fewest_decimal n (suc (suc zero)) h f =
    decimal_2 n (glyph_digit (n % 10) (omega arith)) (glyph_digit (n / 10 % 10) (omega arith)) (f.2 (omega arith)) f.1
fewest_decimal n (suc (suc (suc zero))) h f =
    let e : n / 10 / 10 ≡ n / 100 = omega arith in
    let l : 100 ≤ n = f.2 (omega arith) in
    decimal_3 n (glyph_digit (n % 10) (omega arith)) (glyph_digit (n / 10 % 10) (omega arith)) (omega arith)
    (rw e (glyph_digit (n / 100 % 10) (omega arith))) l h
fewest_decimal n (suc (suc (suc (suc k)))) h f =
    absurd (fewest_long n k h f)

pub fewest_short : (n k : ℕ) → n < 1000 → IsDigitCount 10 1 n k → k ≤ 3
fewest_short n zero h f = omega arith
fewest_short n (suc zero) h f = omega arith
fewest_short n (suc (suc zero)) h f = omega arith
fewest_short n (suc (suc (suc zero))) h f = omega arith
fewest_short n (suc (suc (suc (suc k)))) h f = absurd (fewest_long n k h f)

-- ---- the text of an answer

-- the leaves of an accepted answer lie on the panel
pub drawn : (panel : ℕ) (list : List ℕ) (answer : Result Leaves Refusal) → answer_given answer ≡ layout_of panel list → IfOk answer Drawn
drawn panel list (Err refusal) e = tt
drawn panel list (Ok leaves) e =
    let g = accepted panel list leaves (sym e) in
    let rects : List Rect = leaves_of list (width_of panel) (rows_of panel) in
    let few : length rects ≤ 64 = omega (arith, leaves_le list (width_of panel) (rows_of panel) (box_count list), (good_framed list g.0).few) in
    rw g.1 (record {
      few = few;
      whole = length-padded rects few;
      inside = λ k h.
          rw (get_or-append rects (replicate (64 - length rects) nowhere) nowhere k h)
          (largest panel (get_or rects k nowhere) ((leaves_tile list g.0 (width_of panel) (rows_of panel)).within k h));
    }) where
      largest : (panel : ℕ) (r : Rect) → Inside (width_of panel) (rows_of panel) r → Inside 264 176 r
      largest panel r i = record {
        across = omega (arith, i.across, entry_lt 265 (128 ∷ 200 ∷ 264 ∷ []) refl panel);
        down = omega (arith, i.down, rows-le panel);
      }

-- the text of an input, without a panel and with one
pub text_none : (input : List ℕ) → length input ≡ 0 → answer_text (layout_of 256 input) ≡ layout_text input
unfolding layout_text
text_none [] e = refl
text_none (b ∷ bs) e = absurd (omega arith)

pub text_some : (input : List ℕ) (panel : ℕ) (list : List ℕ) → input ≡ panel ∷ list → answer_text (layout_of panel list) ≡ layout_text input
unfolding layout_text
text_some input panel list e = rw e
