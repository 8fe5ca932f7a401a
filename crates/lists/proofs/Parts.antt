-- Laws of parts: rows in a list, parts of a list that another is laid over, and bytes laid over part by part.
-- Assumes nothing.
use mathlib.Core.Path.{◌≡◌, refl, sym, ap, ◌∙◌}
use mathlib.Core.List.{List, ◌++◌, append-nil}
use Prim.Native.Nat.{ℕ, ◌+◌, ◌-◌, ◌*◌, ◌≤◌, ◌<◌}
use native.Mathlib.Nat.{suc-mul, mul-le-mul_right}
use native.Mathlib.Omega.{arith}
use lib.ListN.{length, take, drop, length-append, length-take, length-drop, take-append-drop}
use lib.Seq.{length-take-le, take-length, drop-length, take-append-le, drop-append-le, drop_at, drop-drop}
use Rattle.lists.specs.Lists.{overlay, overlay_at}
use Rattle.lists.proofs.Lists.{take-overlay, drop-overlay_at, overlay_at_next}

-- a row more is within what n rows take
pub more_rows : (j n b : ℕ) → j < n → j * b + b ≤ n * b
more_rows j n b h = rw suc-mul at (mul-le-mul_right b h)

-- a part of a list that lies in it has its length
pub part_length_lem : (at n : ℕ) (l : List ℕ) → at + n ≤ length l → length (take n (drop at l)) ≡ n
part_length_lem at n l h = simp (length-take, length-drop) (omega arith)

-- a part that ends within the front of a list
part_front : (i n at : ℕ) (l rest : List ℕ) → i + n ≤ at → at ≤ length l
    → take n (drop i (take at l ++ rest)) ≡ take n (drop i (take at l))
part_front i n at l rest h q =
    let e : length (take at l) ≡ at = length-take-le at l q in
    rw (drop-append-le i (take at l) rest (omega arith)) (take-append-le n (drop i (take at l)) rest (simp length-drop (omega arith)))

module _ (at : ℕ) (out bytes : List ℕ) (fits : at + length bytes ≤ length out) where
  -- what was laid over is there
  pub part_own : (n : ℕ) → length bytes ≡ n → take n (drop at (overlay_at at bytes out)) ≡ bytes
  part_own n e =
      rw (drop_at (take at out) (overlay bytes (drop at out)) at (length-take-le at out (omega arith)), ← e) (take-overlay bytes (drop at out))

  -- a part before it, and a part after it, is as it was
  pub part_before : (i n : ℕ) → i + n ≤ at → take n (drop i (overlay_at at bytes out)) ≡ take n (drop i out)
  part_before i n h =
      let q : at ≤ length out = omega arith in
      part_front i n at out (overlay bytes (drop at out)) h q
      ∙ sym (part_front i n at out (drop at out) h q)
      ∙ ap (λ (l : List ℕ). take n (drop i l)) (take-append-drop at out)

  pub part_after : (i n : ℕ) → at + length bytes ≤ i → take n (drop i (overlay_at at bytes out)) ≡ take n (drop i out)
  part_after i n h =
      let end : ℕ = at + length bytes in
      let e : i ≡ end + (i - end) = omega arith in
      let q : drop i (overlay_at at bytes out) ≡ drop i out =
      rw (e, ← drop-drop (i - end) end (overlay_at at bytes out), drop-overlay_at at out bytes end refl (omega arith), drop-drop) in
      ap (take n) q

-- a part laid over its own place changes nothing
pub overlay_at_own : (at n : ℕ) (out : List ℕ) → at + n ≤ length out → overlay_at at (take n (drop at out)) out ≡ out
overlay_at_own at n out h =
    rw (part_length_lem at n out h, take-append-drop n (drop at out)) (take-append-drop at out)

-- ---- part by part

-- one part more, right after those that are there already
pub part_next : (at : ℕ) (out front next : List ℕ) (end : ℕ) {d e : List ℕ} → d ≡ overlay_at at front out → e ≡ overlay_at end next d
    → end ≡ at + length front → end ≤ length out → e ≡ overlay_at at (front ++ next) out
part_next at out front next end p q l h = q ∙ ap (overlay_at end next) p ∙ overlay_at_next at out front next end l h

-- bytes laid over the part that starts at `at` and is lent to the end
pub overlay_part : (at k : ℕ) (bytes out : List ℕ) → k ≡ length out - at
    → take at out ++ (overlay bytes (take k (drop at out)) ++ drop k (drop at out)) ≡ overlay_at at bytes out
overlay_part at k bytes out e =
    let m : k ≡ length (drop at out) = e ∙ sym (length-drop at out) in
    rw (m, take-length, drop-length, append-nil)

-- two lists laid one after the other, and three
pub overlay_two : (out o₁ o₂ xs ys : List ℕ) (i : ℕ) → i ≡ length xs → i ≤ length out
    → o₁ ≡ overlay_at 0 xs out → o₂ ≡ overlay_at i ys o₁ → o₂ ≡ overlay (xs ++ ys) out
overlay_two out o₁ o₂ xs ys i p h e₁ e₂ = e₂ ∙ rw e₁ (overlay_at_next 0 out xs ys i (omega arith) h)

pub overlay_three : (out o₁ o₂ o₃ xs ys zs : List ℕ) (i j : ℕ) → i ≡ length xs → j ≡ i + length ys → j ≤ length out
    → o₁ ≡ overlay_at 0 xs out → o₂ ≡ overlay_at i ys o₁ → o₃ ≡ overlay_at j zs o₂ → o₃ ≡ overlay (xs ++ ys ++ zs) out
overlay_three out o₁ o₂ o₃ xs ys zs i j p q h e₁ e₂ e₃ =
    overlay_two out o₂ o₃ (xs ++ ys) zs j (q ∙ rw (p, length-append)) h (overlay_two out o₁ o₂ xs ys i p (omega arith) e₁ e₂) e₃
