-- Laws of the list of changes, for any rule that gives each byte of the mended file.
-- Assumes nothing.
use mathlib.Core.Path.{◌≡◌, refl, sym, ap, ◌∙◌}
use mathlib.Core.Bool.{true}
use mathlib.Core.List.Memᴰ
use mathlib.Core.List.{List, [], ◌∷◌, ◌++◌, append_assoc, append-nil, Memᴰ}
use native.Mathlib.Nat.{not-suc-le-zero}
use Prim.Native.Nat.{ℕ, zero, suc, ◌+◌, ◌*◌, ◌/◌, ◌%◌, ◌≤◌, ◌<◌}
use native.Mathlib.Decide.{ℕ_discrete}
use native.Mathlib.Numerals.{add-one}
use native.Mathlib.Omega.{arith}
use borrow.Author.Tests.{eq-eqb, ne_eqb, leb-true, le-leb}
use lib.Dec.{leb}
use lib.ListN.{length, get_or, set, take, drop, length-append}
use lib.Seq.{take-suc, drop-cons, set_at, append_snoc, length-take-le, take-length}
use Rattle.lists.specs.Lists.{overlay_at}
use Rattle.lists.proofs.Parts.{part_next}
use Rattle.lists.proofs.Rules.{and_left, and_right}
use Rattle.mend.specs.Changes.{changed, change_bytes, listed, offsets_in, rising, undone}
use Rattle.mend.specs.Facts.{entry_bytes}

-- ---- what one byte adds to the list

module _ (k old new : ℕ) where
  pub no_entry : new ≡ old → entry_bytes k old new ≡ []
  unfolding entry_bytes
  no_entry e = rw (eq-eqb new old e)

  pub one_entry : (new ≡ old → ⊥) → entry_bytes k old new ≡ change_bytes k old new
  unfolding entry_bytes
  one_entry d = rw (ne_eqb new old d)

-- ---- the list

-- indexes that rise end before a later one too, and can be followed by the one that they end before
later : (from end : ℕ) (ks : List ℕ) → rising from end ks ≡ true → rising from (suc end) ks ≡ true
later from end [] e = le-leb from (suc end) (omega (arith, leb-true from end e))
later from end (k ∷ ks) e =
    rw (and_left (leb from k) (rising (suc k) end ks) e) (later (suc k) end ks (and_right (leb from k) (rising (suc k) end ks) e))

one_more : (from end : ℕ) (ks : List ℕ) → rising from end ks ≡ true → rising from (suc end) (ks ++ (end ∷ [])) ≡ true
one_more from end [] e = rw e (le-leb (suc end) (suc end) (omega arith))
one_more from end (k ∷ ks) e =
    rw (and_left (leb from k) (rising (suc k) end ks) e) (one_more (suc k) end ks (and_right (leb from k) (rising (suc k) end ks) e))

module _ (file : List ℕ) (mended : ℕ → ℕ) where
  -- a byte that stays, and one that changes
  pub stays : (k : ℕ) → mended k ≡ get_or file k 0 → changed file mended (suc k) ≡ changed file mended k
  stays k e = simp (eq-eqb (mended k) (get_or file k 0) e, append-nil (changed file mended k))

  pub changes : (k : ℕ) → (mended k ≡ get_or file k 0 → ⊥) → changed file mended (suc k) ≡ changed file mended k ++ (k ∷ [])
  changes k d = rw (ne_eqb (mended k) (get_or file k 0) d)

  -- where every byte stays nothing is listed
  pub none_changed : (n : ℕ) → ((k : ℕ) → k < n → mended k ≡ get_or file k 0) → changed file mended n ≡ []
  none_changed zero e = refl
  none_changed (suc n) e = stays n (e n (omega arith)) ∙ none_changed n (λ k l. e k (omega arith))

  -- one index more adds at most one change
  step_le : (k : ℕ) → length (changed file mended k) ≤ length (changed file mended (suc k))
  step_le k = rw (length-append (changed file mended k)) (omega arith)

  pub count_le : (n : ℕ) → length (changed file mended n) ≤ n
  count_le zero = omega arith
  count_le (suc n) =
      elim (ℕ_discrete (mended n) (get_or file n 0)) [
        | yes e ↦ rw (stays n e) (omega (arith, count_le n))
        | no d ↦ rw (changes n d, length-append) (omega (arith, count_le n))
      ]

  -- there is room for a change where there is room for all
  pub count_more : (k n : ℕ) → k ≤ n → length (changed file mended k) ≤ length (changed file mended n)
  count_more k zero l = let e : k ≡ 0 = omega arith in rw e (omega arith)
  count_more k (suc n) l =
      elim (ℕ_discrete k (suc n)) [
        | yes e ↦ rw e (omega arith)
        | no d ↦ omega (arith, count_more k n (omega arith), step_le n)
      ]

  -- a byte that is not listed stays
  pub unlisted_stays : (n k : ℕ) → k < n → (Memᴰ k (changed file mended n) → ⊥) → mended k ≡ get_or file k 0
  unlisted_stays zero k l d = absurd (not-suc-le-zero l)
  unlisted_stays (suc n) k l d =
      elim (ℕ_discrete (mended n) (get_or file n 0)) [
        | yes e ↦
            elim (ℕ_discrete k n) [
              | yes q ↦ rw q e
              | no q ↦ unlisted_stays n k (omega arith) (λ m. d (rw (stays n e) m))
            ]
        | no f ↦
            elim (ℕ_discrete k n) [
              | yes q ↦ absurd (d (rw (changes n f) (Memᴰ.append_right (changed file mended n) (Memᴰ.head q))))
              | no q ↦ unlisted_stays n k (omega arith) (λ m. d (rw (changes n f) (Memᴰ.append_left (n ∷ []) m)))
            ]
      ]

  -- the indexes that are listed rise, and end before n
  pub in_order_lem : (n : ℕ) → rising 0 n (changed file mended n) ≡ true
  in_order_lem zero = refl
  in_order_lem (suc n) =
      elim (ℕ_discrete (mended n) (get_or file n 0)) [
        | yes e ↦ rw (stays n e) (later 0 n (changed file mended n) (in_order_lem n))
        | no d ↦ rw (changes n d) (one_more 0 n (changed file mended n) (in_order_lem n))
      ]

  -- the list of more changes
  listed-append : (ks ls : List ℕ) → listed file mended (ks ++ ls) ≡ listed file mended ks ++ listed file mended ls
  listed-append [] ls = refl
  listed-append (k ∷ ks) ls =
      ap (λ (l : List ℕ). change_bytes k (get_or file k 0) (mended k) ++ l) (listed-append ks ls)

  pub length-listed : (ks : List ℕ) → length (listed file mended ks) ≡ 4 * length ks
  length-listed [] = refl
  length-listed (k ∷ ks) = omega (arith, length-listed ks)

  -- what one index more adds to it
  pub listed_next : (k : ℕ) → listed file mended (changed file mended (suc k))
      ≡ listed file mended (changed file mended k) ++ entry_bytes k (get_or file k 0) (mended k)
  unfolding entry_bytes
  listed_next k =
      elim (ℕ_discrete (mended k) (get_or file k 0)) [
        | yes e ↦ rw (eq-eqb (mended k) (get_or file k 0) e, append-nil, append-nil)
        | no d ↦ rw (ne_eqb (mended k) (get_or file k 0) d) (listed-append (changed file mended k) (k ∷ []))
      ]

  -- there is room for it where there is room for all
  pub entry_room : (k n room at v : ℕ) → k < n → 4 * length (changed file mended n) ≤ room → v ≡ mended k
      → at ≡ length (listed file mended (changed file mended k)) → at + length (entry_bytes k (get_or file k 0) v) ≤ room
  entry_room k n room at v l h w e =
      let next = ap length (listed_next k)
      ∙ length-append (listed file mended (changed file mended k)) (entry_bytes k (get_or file k 0) (mended k)) in
      rw w (omega (arith, next, length-listed (changed file mended (suc k)), count_more (suc k) n l))

  -- a turn of the loop
  pub list_more : (out d e : List ℕ) (k at v : ℕ) → v ≡ mended k → at ≡ length (listed file mended (changed file mended k))
      → d ≡ overlay_at 0 (listed file mended (changed file mended k)) out
      → e ≡ overlay_at at (entry_bytes k (get_or file k 0) v) d → at ≤ length out
      → e ≡ overlay_at 0 (listed file mended (changed file mended (k + 1))) out
  list_more out d e k at v w a p q h =
      rw (add-one, listed_next k)
      (part_next 0 out (listed file mended (changed file mended k)) (entry_bytes k (get_or file k 0) (mended k)) at p (rw w at q) (omega arith) h)

  pub at_more : (k at v r : ℕ) → v ≡ mended k → at ≡ length (listed file mended (changed file mended k))
      → r ≡ at + length (entry_bytes k (get_or file k 0) v) → r ≡ length (listed file mended (changed file mended (k + 1)))
  at_more k at v r w a e =
      let f : r ≡ at + length (entry_bytes k (get_or file k 0) (mended k)) = rw w at e in
      rw (add-one, listed_next k, length-append) (omega arith)

  -- the turns of the count
  pub count_same : (k n v : ℕ) → v ≡ mended k → v ≡ get_or file k 0 → n ≡ length (changed file mended k)
      → n ≡ length (changed file mended (k + 1))
  count_same k n v w e h = rw (add-one, stays k (sym w ∙ e)) h

  pub count_next : (k n v : ℕ) → v ≡ mended k → (v ≡ get_or file k 0 → ⊥) → n ≡ length (changed file mended k)
      → n + 1 ≡ length (changed file mended (k + 1))
  count_next k n v w d h = rw (add-one k, changes k (λ e. d (w ∙ e)), length-append) (omega arith)

  -- ---- reading the list

  -- the offsets that it holds are the indexes that it was made of
  pub offsets_back : (ks rest : List ℕ) → offsets_in (length ks) (listed file mended ks ++ rest) ≡ ks
  offsets_back [] rest = refl
  offsets_back (k ∷ ks) rest =
      let i : 256 * (k / 256) + k % 256 ≡ k = omega arith in
      rw (i, offsets_back ks rest)

  -- ---- undoing it

  -- the new bytes, of which the first n are the old ones again
  abbrev partly : (new : List ℕ) (n : ℕ) → List ℕ
  partly new n = take n file ++ drop n new

  module _ (new : List ℕ) (same : (k : ℕ) → k < length file → get_or new k 0 ≡ mended k) (room : length file ≤ length new) where
    partly_set : (n : ℕ) → n < length file → set (partly new n) n (get_or file n 0) ≡ partly new (suc n)
    partly_set n l =
        let m : n < length new = omega arith in
        rw (drop-cons new n 0 m, take-suc file n 0 l)
        (set_at (take n file) (get_or new n 0) (drop (suc n) new) (get_or file n 0) n (length-take-le n file (omega arith))
        ∙ sym (append_snoc (take n file) (get_or file n 0) (drop (suc n) new)))

    partly_same : (n : ℕ) → n < length file → mended n ≡ get_or file n 0 → partly new n ≡ partly new (suc n)
    partly_same n l e =
        let m : n < length new = omega arith in
        rw (drop-cons new n 0 m, take-suc file n 0 l, same n l, e) (sym (append_snoc (take n file) (get_or file n 0) (drop (suc n) new)))

    undo : (n : ℕ) → n ≤ length file → (more : ℕ) (rest : List ℕ)
        → undone (length (changed file mended n) + more) (listed file mended (changed file mended n) ++ rest) new
        ≡ undone more rest (partly new n)
    undo zero h more rest = let e : 0 + more ≡ more = omega arith in ap (λ (m : ℕ). undone m rest new) e
    undo (suc n) h more rest =
        elim (ℕ_discrete (mended n) (get_or file n 0)) [
          | yes e ↦ rw (stays n e) (undo n (omega arith) more rest ∙ ap (undone more rest) (partly_same n (omega arith) e))
          | no d ↦
              let ks : List ℕ = changed file mended n in
              let c : length (ks ++ (n ∷ [])) + more ≡ length ks + suc more = rw length-append (omega arith) in
              let l : listed file mended (ks ++ (n ∷ [])) ++ rest
              ≡ listed file mended ks ++ (change_bytes n (get_or file n 0) (mended n) ++ rest) =
              ap (λ (x : List ℕ). x ++ rest) (listed-append ks (n ∷ []))
              ∙ append_assoc (listed file mended ks) (change_bytes n (get_or file n 0) (mended n)) rest in
              let i : 256 * (n / 256) + n % 256 ≡ n = omega arith in
              rw (changes n d, c, l)
              (undo n (omega arith) (suc more) (change_bytes n (get_or file n 0) (mended n) ++ rest)
              ∙ ap (λ (k : ℕ). undone more rest (set (partly new n) k (get_or file n 0))) i
              ∙ ap (undone more rest) (partly_set n (omega arith)))
        ]

    -- with all changes undone the file is back, and what was added stands after it
    pub undo_all : (rest : List ℕ) → let ks = changed file mended (length file) in
        undone (length ks) (listed file mended ks ++ rest) new ≡ file ++ drop (length file) new
    undo_all rest =
        let n : ℕ = length (changed file mended (length file)) in
        let e : n ≡ n + 0 = omega arith in
        ap (λ (m : ℕ). undone m (listed file mended (changed file mended (length file)) ++ rest) new) e
        ∙ undo (length file) (omega arith) 0 rest
        ∙ ap (λ (x : List ℕ). x ++ drop (length file) new) (take-length file)
