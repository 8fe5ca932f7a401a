-- A chunk that makes no row whole leaves the slot as it is.
-- Assumes nothing.
use mathlib.Core.Path.{◌≡◌, refl, sym, ap, ◌∙◌}
use mathlib.Core.List.{List, [], ◌∷◌}
use Prim.Native.Nat.{ℕ, zero, suc, ◌+◌, ◌-◌, ◌*◌, ◌/◌, ◌%◌, ◌≤◌, ◌<◌}
use native.Mathlib.Nat.{div-lt_iff_lt-mul, div-add-mod', suc-mul}
use native.Mathlib.Omega.{arith}
use native.Mathlib.Decide.{dec_lt, ℕ_discrete}
use borrow.Author.Tests.{eqb-true, eq-eqb}
use lib.Dec.{eqb}
use lib.ListN.{length}
use Rattle.lists.proofs.Rules.{by_test}
use Rattle.bitmap.specs.Header.{header_length, file_length}
use Rattle.fill.specs.Fills.{rows_come, kept_count}
use Rattle.fill.specs.Feeding.{keeping, completed, piece_fed, bytes_fed}
use Rattle.fill.specs.declared.Fill.{Fill}
use Rattle.fill.proofs.Pieces.{count_row, rows_in_lem, row_of, header_came}

-- how many rows are whole never falls
pub rows_grow : (s : ℕ) → 0 < s → (m n : ℕ) → m ≤ n → rows_come s m ≤ rows_come s n
rows_grow s some m n l =
    elim (dec_lt (rows_come s n) (rows_come s m)) [
      | yes q ↦
          let p : n - header_length < (m - header_length) / s * s = (div-lt_iff_lt-mul some).0 q in
          absurd (omega (arith, p, div-add-mod' (m - header_length) s))
      | no q ↦ omega arith
    ]

-- a whole file has all of them
pub rows_all : (h s : ℕ) → 0 < s → rows_come s (file_length h s) ≡ h
rows_all h s some =
    let e : file_length h s ≡ header_length + (h * s + 0) = omega arith in
    ap (rows_come s) e ∙ rows_in_lem s h 0 some

-- a byte that makes a row whole makes them one more
row_more : (s came : ℕ) → 0 < s → kept_count s (came + 1) ≡ 0 → (came + 1 ≡ header_length → ⊥) → rows_come s came < rows_come s (came + 1)
row_more s came some z other = go (rows_come s (came + 1)) refl
  where
    header : header_length ≤ came + 1
    header = header_came s came some 1 (omega arith) z

    is : (q : ℕ) → rows_come s (came + 1) ≡ q → came + 1 ≡ header_length + (q * s + 0)
    is q e =
        let f = row_of s (came + 1) some header in
        let m : (came + 1 - header_length) % s ≡ 0 = sym (count_row s (came + 1) header) ∙ z in
        let g : came + 1 ≡ header_length + (rows_come s (came + 1) * s + (came + 1 - header_length) % s) = f in
        rw (m, e) at g

    go : (q : ℕ) → rows_come s (came + 1) ≡ q → rows_come s came < rows_come s (came + 1)
    go zero e = absurd (other (omega (arith, is 0 e)))
    go (suc p) e =
        let m : suc p * s ≡ p * s + s = suc-mul p s in
        let f : came ≡ header_length + (p * s + (s - 1)) = omega (arith, is (suc p) e, m, some) in
        let g : rows_come s came ≡ p = ap (rows_come s) f ∙ rows_in_lem s p (s - 1) (omega arith) in
        omega (arith, e, g)

module _ (b h s : ℕ) (some : 0 < s) where
  -- what a byte counts
  piece_came : (fill : Fill) (raw : List ℕ) (byte : ℕ) → (piece_fed b h s fill raw (byte ∷ [])).0.came ≡ fill.came + 1
  unfolding piece_fed completed
  piece_came fill raw byte =
      by_test (λ (r : Fill × List ℕ). r.0.came ≡ fill.came + 1) (eqb (kept_count s (fill.came + 1)) 0)
      (completed b h s (keeping s fill (byte ∷ [])) raw) (keeping s fill (byte ∷ []), raw)
      (λ _. by_test (λ (r : Fill × List ℕ). r.0.came ≡ fill.came + 1) (eqb (fill.came + 1) header_length) _ _ (λ _. refl) (λ _. refl))
      (λ _. refl)

  chunk_came : (chunk : List ℕ) (here : Fill × List ℕ) → (bytes_fed b h s here chunk).0.came ≡ here.0.came + length chunk
  chunk_came [] here = omega arith
  chunk_came (byte ∷ chunk) here =
      let next = piece_fed b h s here.0 here.1 (byte ∷ []) in
      let e = chunk_came chunk next in
      omega (arith, e, piece_came here.0 here.1 byte)

  piece_unwritten : (fill : Fill) (raw : List ℕ) (byte : ℕ) → rows_come s (fill.came + 1) ≡ rows_come s fill.came
      → (piece_fed b h s fill raw (byte ∷ [])).1 ≡ raw
  unfolding piece_fed completed
  piece_unwritten fill raw byte same =
      by_test (λ (r : Fill × List ℕ). r.1 ≡ raw) (eqb (kept_count s (fill.came + 1)) 0) (completed b h s (keeping s fill (byte ∷ [])) raw)
      (keeping s fill (byte ∷ []), raw)
      (λ z.
      elim (ℕ_discrete (fill.came + 1) header_length) [
        | yes e ↦ rw (eq-eqb (fill.came + 1) header_length e)
        | no d ↦ absurd (omega (arith, same, row_more s fill.came some (eqb-true _ _ z) d))
      ])
      (λ _. refl)

  -- bytes that make no row whole
  pub chunk_unwritten : (chunk : List ℕ) (here : Fill × List ℕ)
      → rows_come s (bytes_fed b h s here chunk).0.came ≡ rows_come s here.0.came → (bytes_fed b h s here chunk).1 ≡ here.1
  chunk_unwritten [] here same = refl
  chunk_unwritten (byte ∷ chunk) here same =
      let fill : Fill = here.0 in
      let next = piece_fed b h s fill here.1 (byte ∷ []) in
      let now : next.0.came ≡ fill.came + 1 = piece_came fill here.1 byte in
      let end : (bytes_fed b h s next chunk).0.came ≡ next.0.came + length chunk = chunk_came chunk next in
      let up = rows_grow s some fill.came (fill.came + 1) (omega arith) in
      let on : rows_come s (fill.came + 1) ≤ rows_come s (bytes_fed b h s next chunk).0.came =
      rows_grow s some (fill.came + 1) (bytes_fed b h s next chunk).0.came (omega (arith, end, now)) in
      let one : rows_come s (fill.came + 1) ≡ rows_come s fill.came = omega (arith, up, on, same) in
      chunk_unwritten chunk next (same ∙ sym (ap (rows_come s) now ∙ one)) ∙ piece_unwritten fill here.1 byte one
