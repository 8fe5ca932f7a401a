-- Laws of bytes and chunks as the code takes them, and of the conditions as it asks them.
-- Assumes nothing.
use mathlib.Core.Path.{◌≡◌, refl, sym, ap, ◌∙◌}
use mathlib.Core.Bool.{Bool, true, false, ◌&&◌, and-true, and_assoc}
use mathlib.Core.List.{List, [], ◌∷◌, ◌++◌}
use Prim.Native.Nat.{ℕ, ◌+◌, ◌-◌, ◌≤◌, ◌<◌}
use native.Mathlib.Omega.{arith}
use native.Mathlib.Decide.{ℕ_discrete}
use borrow.Author.Tests.{lt-ltb, eq-eqb, ne_eqb}
use lib.Bits.{bit_or, or_zero_l, or_add_and, and_le_r}
use lib.Dec.{eqb}
use lib.ListN.{length, take, drop, length-drop}
use lib.Seq.{take_all}
use Rattle.std.specs.List.{fold}
use Rattle.bitmap.specs.Header.{header_length}
use Rattle.bitmap.specs.Palettes.{black_and_white}
use Rattle.bitmap_prefix.specs.Begins.{header_begins}
use Rattle.bitmap_prefix.proofs.Begins.{begins-header, begins_empty}
use Rattle.fill.specs.Fills.{fill_with, none_kept, kept_count}
use Rattle.fill.specs.Facts.{part_length}
use Rattle.fill.specs.Feeding.{keeping, completed, piece_fed, bytes_fed}
use Rattle.fill.specs.Conditions.{all_zero, header_rule}
use Rattle.fill.specs.declared.Fill.{Fill}
use Rattle.fill.proofs.Pieces.{bytes_piece, bytes_parts, bytes_rest}

-- ---- a chunk

-- the bytes from index i on
pub rest-whole : (i : ℕ) (chunk : List ℕ) → take (length chunk - i) (drop i chunk) ≡ drop i chunk
rest-whole i chunk = take_all (length chunk - i) (drop i chunk) (rw length-drop (omega arith))

-- with the last byte of a header or row none is kept
completed-parts : (b h s : ℕ) (fill : Fill) (raw : List ℕ)
    → ((completed b h s fill raw).0.came ≡ fill.came) × ((completed b h s fill raw).0.kept ≡ none_kept)
unfolding completed
completed-parts b h s fill raw =
    elim (ℕ_discrete fill.came header_length) [
      | yes e ↦ rw (eq-eqb fill.came header_length e) (refl, refl)
      | no n ↦ rw (ne_eqb fill.came header_length n) (refl, refl)
    ]

-- every byte of a piece is counted
pub piece_came : (b h s : ℕ) (fill : Fill) (raw piece : List ℕ) → (piece_fed b h s fill raw piece).0.came ≡ fill.came + length piece
unfolding piece_fed
piece_came b h s fill raw piece =
    elim (ℕ_discrete (kept_count s (fill.came + length piece)) 0) [
      | yes z ↦ rw (eq-eqb (kept_count s (fill.came + length piece)) 0 z) (completed-parts b h s (keeping s fill piece) raw).0
      | no n ↦ rw (ne_eqb (kept_count s (fill.came + length piece)) 0 n)
    ]

pub piece_counted : (b h s : ℕ) (fill next : Fill) (raw raw' piece : List ℕ) → (next, raw') ≡ piece_fed b h s fill raw piece
    → next.came ≡ fill.came + length piece
piece_counted b h s fill next raw raw' piece e = ap (λ (r : Fill × List ℕ). r.0.came) e ∙ piece_came b h s fill raw piece

pub none_kept_lem : (b h s : ℕ) (fill next : Fill) (raw raw' piece : List ℕ) → (next, raw') ≡ piece_fed b h s fill raw piece
    → kept_count s next.came ≡ 0 → next.kept ≡ none_kept
unfolding piece_fed
none_kept_lem b h s fill next raw raw' piece e z =
    let came : next.came ≡ fill.came + length piece =
    ap (λ (r : Fill × List ℕ). r.0.came) e ∙ piece_came b h s fill raw piece in
    let whole : kept_count s (fill.came + length piece) ≡ 0 = ap (kept_count s) (sym came) ∙ z in
    ap (λ (r : Fill × List ℕ). r.0.kept) e
    ∙ rw (eq-eqb (kept_count s (fill.came + length piece)) 0 whole) (completed-parts b h s (keeping s fill piece) raw).1

-- the two steps of a turn of the loop: the first bytes are a piece
pub piece_next : (b h s : ℕ) → 0 < s → s ≤ header_length → (piece rest : List ℕ) (here next : Fill) (raw raw' : List ℕ)
    → 0 < length piece → length here.kept ≡ header_length → kept_count s here.came + length piece ≤ part_length s here.came
    → (next, raw') ≡ piece_fed b h s here raw piece
    → bytes_fed b h s (next, raw') rest ≡ bytes_fed b h s (here, raw) (piece ++ rest)
piece_next b h s some near piece rest here next raw raw' pos long room e =
    ap (λ (t : Fill × List ℕ). bytes_fed b h s t rest) (e ∙ sym (bytes_piece b h s some near piece here raw pos long room))
    ∙ sym (bytes_parts b h s (here, raw) piece rest)

-- and the r bytes after them are whole rows
module _ (b h s : ℕ) (rest : List ℕ) (r : ℕ) (here : Fill) (raw raw' : List ℕ) (none : 0 < r → here.kept ≡ none_kept)
    (taken : (slot : ℕ) → (fill_with slot (here.came + r) here.palette none_kept, raw')
    ≡ bytes_fed b h s (fill_with slot here.came here.palette none_kept, raw) (take r rest)) where
  abbrev moved : Fill
  moved = fill_with here.slot (here.came + r) here.palette here.kept

  rows-fed : (moved, raw') ≡ bytes_fed b h s (here, raw) (take r rest)
  rows-fed = go (ℕ_discrete r 0)
    where
      go : Dec (r ≡ 0) → (moved, raw') ≡ bytes_fed b h s (here, raw) (take r rest)
      go (yes e) =
          let f : raw' ≡ raw = ap (λ (t : Fill × List ℕ). t.1) (rw e at (taken 0)) in
          let g : here.came + 0 ≡ here.came = omega arith in
          rw (e, f, g)
      go (no n) = rw (none (omega arith)) (taken here.slot)

  pub rows_next : bytes_fed b h s (moved, raw') (drop r rest) ≡ bytes_fed b h s (here, raw) rest
  rows_next = bytes_rest b h s (here, raw) (moved, raw') r rest rows-fed

-- ---- the conditions

-- two numbers are 0 where their bits together are
or_zero : (a b : ℕ) → eqb (bit_or a b) 0 ≡ (eqb a 0 && eqb b 0)
or_zero a b =
    elim (ℕ_discrete a 0) [
      | yes e ↦ rw (e, or_zero_l b)
      | no n ↦
          let m : (bit_or a b ≡ 0 → ⊥) = λ z. n (omega (arith, or_add_and a b, and_le_r a b)) in
          rw (ne_eqb a 0 n, ne_eqb (bit_or a b) 0 m)
    ]

-- bytes are all 0 where all their bits together are
pub zero_bits : (bytes : List ℕ) (any : ℕ) → eqb (fold bit_or any bytes) 0 ≡ (eqb any 0 && all_zero bytes)
zero_bits [] any = sym (and-true (eqb any 0))
zero_bits (byte ∷ bytes) any =
    zero_bits bytes (bit_or any byte)
    ∙ rw (or_zero any byte) (and_assoc (eqb any 0) (eqb byte 0) (all_zero bytes))

module _ (b h s : ℕ) (fill : Fill) (known : Bool) (is : known ≡ black_and_white fill.palette) where
  pub rule_begun : fill.came < header_length → known ≡ false → header_begins b h s (take fill.came fill.kept) ≡ header_rule b h s fill
  rule_begun l e = rw (lt-ltb fill.came header_length l, ← is, e, and-true)

  pub rule_none : known ≡ false → fill.came ≡ 0 → true ≡ header_rule b h s fill
  rule_none e z =
      let none : header_begins b h s (take fill.came fill.kept) ≡ true = rw z (begins-header b h s [] (begins_empty b h s)) in
      sym none ∙ rule_begun (omega arith) e
