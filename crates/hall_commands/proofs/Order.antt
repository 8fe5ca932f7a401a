-- Parts in order, and commands read in order.
-- Assumes nothing.
use mathlib.Core.Path.{◌≡◌, refl, ap₂, ◌∙◌}
use mathlib.Core.Bool.{true}
use mathlib.Core.List.{List, ◌++◌}
use Prim.Native.Nat.{ℕ, zero, suc, ◌+◌, ◌≤◌, ◌<◌}
use native.Mathlib.Nat.{add_assoc}
use native.Mathlib.Decide.{ℕ_discrete}
use native.Mathlib.Omega.{arith}
use borrow.Author.Tests.{eq-eqb, ne_eqb, le-leb, le-ltb}
use lib.ListN.{length, length-append}
use Rattle.lists.specs.Lists.{overlay_at}
use Rattle.lists.proofs.Lists.{overlay_at_none, length-overlay_at, overlay_at_next}
use Rattle.lists.proofs.Rules.{none, keep, all_kept}
use Rattle.hall_commands.specs.Commands.{command}
use Rattle.hall_commands.specs.Reading.{Reply, reader_at, reply, is_upload, reading}
use Rattle.hall_commands.specs.Order.{joined, read_next, read_in_order}
use Rattle.hall_commands.specs.declared.Reader.{Reader}

-- ---- parts in order

pub joined_cong : (n : ℕ) (f g : ℕ → List ℕ) → ((k : ℕ) → k < n → f k ≡ g k) → joined n f ≡ joined n g
joined_cong zero f g e = refl
joined_cong (suc n) f g e = ap₂ ◌++◌ (joined_cong n f g (λ k h. e k (omega arith))) (e n (omega arith))

pub read_cong : (n : ℕ) (f g : ℕ → List ℕ) (reader : Reader) (memory : List ℕ) → ((k : ℕ) → k < n → f k ≡ g k)
    → read_in_order n f reader memory ≡ read_in_order n g reader memory
read_cong zero f g reader memory e = refl
read_cong (suc n) f g reader memory e =
    ap₂ read_next (read_cong n f g reader memory (λ k h. e k (omega arith))) (e n (omega arith))

-- a refusal is not passed
pub not-refused : (before : Reply × List ℕ) (command : List ℕ) → (read_next before command).0.number ≡ 0 → before.0.number ≡ 0
not-refused before command e =
    elim (ℕ_discrete before.0.number 0) [
      | yes z ↦ z
      | no d ↦ rw (ne_eqb before.0.number 0 d) at e
    ]

-- ---- commands read in order, over any parts of 1 to 251 bytes

module _ (slot : ℕ) (small : slot ≤ 255) where
  upload_good : (body : List ℕ) → 1 ≤ length body → length body ≤ 251 → is_upload slot (command slot body) ≡ true
  unfolding is_upload
  upload_good body l h =
      all_kept (keep refl (keep refl (keep (eq-eqb slot slot refl) (keep (le-leb 1 (length body) l)
      (keep (le-leb (length body) 251 h) (keep (eq-eqb (length (command slot body)) (4 + length body) (omega arith)) none))))))

  read_part : (at : ℕ) (body memory : List ℕ) → 1 ≤ length body → length body ≤ 251 → at + length body ≤ length memory
      → reading (reader_at slot at) (command slot body) memory ≡ (reply 0 (reader_at slot (at + length body)), overlay_at at body memory)
  unfolding reading
  read_part at body memory l h room =
      rw (le-ltb 255 slot small, upload_good body l h, le-ltb (length memory) (at + length body) room)

  pub read_joined : (n : ℕ) (part : ℕ → List ℕ) (at : ℕ) (memory : List ℕ)
      → ((k : ℕ) → k < n → 1 ≤ length (part k)) → ((k : ℕ) → k < n → length (part k) ≤ 251)
      → at + length (joined n part) ≤ length memory
      → read_in_order n (λ k. command slot (part k)) (reader_at slot at) memory
      ≡ (reply 0 (reader_at slot (at + length (joined n part))), overlay_at at (joined n part) memory)
  read_joined zero part at memory some most room =
      let e : at + 0 ≡ at = omega arith in
      rw (e, ← overlay_at_none at memory)
  read_joined (suc n) part at memory some most room =
      let front : List ℕ = joined n part in
      let l : length (front ++ part n) ≡ length front + length (part n) = length-append front (part n) in
      let fits : at + length front ≤ length memory = omega (arith, l) in
      let before : length (overlay_at at front memory) ≡ length memory = length-overlay_at at memory front fits in
      rw (read_joined n part at memory (λ k h. some k (omega arith)) (λ k h. most k (omega arith)) fits)
      (read_part (at + length front) (part n) (overlay_at at front memory) (some n (omega arith)) (most n (omega arith)) (omega (arith, l))
      ∙ rw (overlay_at_next at memory front (part n) (at + length front) refl fits, l, add_assoc))
