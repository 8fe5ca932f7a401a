-- Request 2026-11: what is promised of every call. `mending` is what the contract of `mend` cites; its first part is the answer, the second
-- the output for the mended file, the third the output for the list.
-- Assumes nothing.
use mathlib.Core.Path.{◌≡◌, refl, sym, ap, subst, ◌∙◌}
use mathlib.Core.Bool.{Bool, true, false, not, false≢true}
use mathlib.Core.List.{List, [], ◌∷◌, ◌++◌, append-nil}
use Prim.Native.Nat.{ℕ, suc, ◌+◌, ◌-◌, ◌*◌, ◌≤◌, ◌<◌}
use native.Mathlib.Decide.{dec_lt}
use native.Mathlib.Omega.{arith}
use borrow.Author.Tests.{not-false, eq-eqb, ltb-true, lt-ltb, le-ltb}
use lib.ListN.{length, get_or, take, drop, drop_of_length-le}
use lib.Seq.{take_at}
use Rattle.lists.specs.Lists.{overlay}
use Rattle.lists.specs.Rules.{Case, case}
use Rattle.lists.proofs.Rules.{None, none, past, by_cases, none_of}
use Rattle.panel.specs.Panels.{is_panel, rows_of, row_bytes_of, stride_of}
use Rattle.panel.proofs.Panels.{each_panel, rows-le, stride_le, size_of}
use Rattle.bitmap.specs.Bitmap.{bitmap_good, check_bitmap}
use Rattle.bitmap.proofs.Check.{rows-small, check_file}
use Rattle.mend.specs.Mending.{mendable, mended_byte, mended_file, ZeroPadding, elsewhere}
use Rattle.mend.specs.Changes.{offsets_in, rising, without_added}
use Rattle.mend.specs.Answers.{Told, changes, change_list, refusal, acceptance, mend_cases, mending_of, mending}
use Rattle.mend.specs.Promises.{full_length, restored, nothing_done, NothingToMend, Promised}
use Rattle.mend.proofs.Changes.{count_le, in_order_lem, offsets_back, undo_all, unlisted_stays}
use Rattle.mend.proofs.Few.{changes-few}
use Rattle.mend.proofs.Calls.{lengths, mended, of_panel}
use Rattle.mend.proofs.Files.{length_mended, byte_mended, mended_padding, mended_good, byte_elsewhere, byte_white, byte_after, whole, good-mendable, file_same, none_listed}

module _ (panel : ℕ) where
  -- the panel's sizes
  abbrev b : ℕ
  b = row_bytes_of panel

  abbrev h : ℕ
  h = rows_of panel

  abbrev s : ℕ
  s = stride_of panel

  -- ---- a call is refused, or the file can be mended

  -- what an accepted call leaves
  abbrev accepting : (file out list : List ℕ) → Told × List ℕ × List ℕ
  accepting file out list = (
    acceptance (full_length panel) (length file) (length (changes b h s file)),
    overlay (mended_file b h s file) out,
    overlay (change_list b h s file) list,
  )

  -- what holds of both holds of every call
  pub by_answer : (P : Told × List ℕ × List ℕ → Type 0) (file out list : List ℕ)
      → ((n : ℕ) → (n ≡ 0 → ⊥) → P (refusal n, out, list))
      → (is_panel panel ≡ true → mendable b h s file ≡ true → P (accepting file out list)) → P (mending panel file out list)
  unfolding mending mending_of
  by_answer P file out list refused taken =
      by_cases P (case (not (is_panel panel)) 14 ∷ []) (λ n. (refusal n, out, list)) (mending_of b h s file out list) refl
      (λ n d. refused n (λ e. false≢true (sym d ∙ eq-eqb n 0 e)))
      (λ panels.
      by_cases P (mend_cases b h s file (length out) (length list)) (λ n. (refusal n, out, list)) (accepting file out list) refl
      (λ n d. refused n (λ e. false≢true (sym d ∙ eq-eqb n 0 e)))
      (λ free. taken (not-false (is_panel panel) (first panels)) (not-false (mendable b h s file) (first free))))
    where
      first : {test : Bool} {n : ℕ} {cs : List Case} → None (case test n ∷ cs) → test ≡ false
      first (past e rest) = e

  pub record Accepted (file out list : List ℕ) (left : Told × List ℕ × List ℕ) : Type 0 where
    pub is-panel : is_panel panel ≡ true
    pub can : mendable b h s file ≡ true
    pub answer : left ≡ accepting file out list

  accepted : (file out list : List ℕ) → (mending panel file out list).0.number ≡ 0 → Accepted file out list (mending panel file out list)
  accepted file out list =
      by_answer (λ (left : Told × List ℕ × List ℕ). left.0.number ≡ 0 → Accepted file out list left) file out list
      (λ n d e. absurd (d e))
      (λ p c e. record { is-panel = p; can = c; answer = refl })

  -- ---- an accepted file with zero padding

  good_kept : (file : List ℕ) → is_panel panel ≡ true → bitmap_good b h s file ≡ true → ZeroPadding b h s file → NothingToMend panel file
  good_kept file p good zeros out list room =
      let none_left : changes b h s file ≡ [] = none_listed b h s file good zeros in
      let full : ℕ = full_length panel in
      let all : length file ≡ full = whole b h s file good in
      let low : full ≤ length file = omega arith in
      let nothing : full - length file ≡ 0 = omega arith in
      let answer : nothing_done ≡ acceptance full (length file) 0 = rw (le-ltb (length file) full low, nothing) in
      let bytes : overlay file out ≡ overlay (mended_file b h s file) out = rw (file_same b h s file good zeros) in
      let kept : list ≡ overlay (change_list b h s file) list = rw none_left in
      sym (mended b h s file out list (good-mendable b h s file good) room (mended_byte b h s file) refl 0 (sym (ap length none_left)) (omega arith)
      answer bytes kept
      ∙ of_panel panel file out list p refl refl refl)

  -- gives an empty list, adds nothing and is put out as it is
  pub good_file : (file : List ℕ) → check_bitmap panel file ≡ 0 → ZeroPadding b h s file → NothingToMend panel file
  unfolding check_bitmap
  good_file file e zeros =
      let cases : List Case = case (not (is_panel panel)) 14 ∷ case (not (bitmap_good b h s file)) 4 ∷ [] in
      let (p, g) = two (none_of cases refl refl e) in
      good_kept file (not-false (is_panel panel) p) (not-false (bitmap_good b h s file) g) zeros
    where
      two : {t₁ t₂ : Bool} {n₁ n₂ : ℕ} → None (case t₁ n₁ ∷ case t₂ n₂ ∷ []) → (t₁ ≡ false) × (t₂ ≡ false)
      two (past e₁ (past e₂ none)) = (e₁, e₂)

  -- ---- any file that is mended

  module _ (file out list : List ℕ) (taken : (mending panel file out list).0.number ≡ 0) where
    was : Accepted file out list (mending panel file out list)
    was = accepted file out list taken

    abbrev m : List ℕ
    m = mended_file b h s file

    short : length file ≤ full_length panel
    short = (lengths b h s file was.can).short

    -- the file that was put out
    put-out : take (full_length panel) (mending panel file out list).1 ≡ m
    put-out = rw was.answer (take_at m (drop (length m) out) (full_length panel) (length_mended b h s file))

    good : bitmap_good b h s m ≡ true
    good = mended_good b h s (rows-le panel) (stride_le panel) file was.can

    back : restored (mending panel file out list).0 m (mending panel file out list).2 ≡ file
    back =
        let l : length m ≡ full_length panel = length_mended b h s file in
        let undo = undo_all file (mended_byte b h s file) m (λ k q. byte_mended b h s file k (omega (arith, short))) (omega (arith, short))
        (drop (length (change_list b h s file)) list) in
        rw was.answer
        (rw undo (cut (drop (length file) m) (dec_lt (length file) (full_length panel)) (λ q. drop_of_length-le m {i = length file} (omega (arith, l, q)))))
      where
        cut : (rest : List ℕ) → Dec (length file < full_length panel) → (full_length panel ≤ length file → rest ≡ [])
            → without_added (acceptance (full_length panel) (length file) 0).offset (full_length panel - length file) (file ++ rest) ≡ file
        cut rest (yes q) e =
            let n : full_length panel - length file ≡ suc (full_length panel - length file - 1) = omega arith in
            rw (lt-ltb (length file) (full_length panel) q, n) (take_at file rest (length file) refl)
        cut rest (no q) e =
            let n : full_length panel - length file ≡ 0 = omega arith in
            let z : rest ≡ [] = e (omega arith) in
            rw (n, z) (append-nil file)

    -- the offsets of the list are the indexes of the changed bytes
    offsets : offsets_in (mending panel file out list).0.changes (mending panel file out list).2 ≡ changes b h s file
    offsets =
        rw was.answer (offsets_back file (mended_byte b h s file) (changes b h s file) (drop (length (change_list b h s file)) list))

    same_elsewhere : (k : ℕ) → k < length file → elsewhere b s k ≡ true → mended_byte b h s file k ≡ get_or file k 0
    same_elsewhere = byte_elsewhere b h s (rows-le panel) (stride_le panel) file was.can

    few : (mending panel file out list).0.changes ≤ 16 + h * (s - b)
    few =
        let size = size_of panel (ltb-true panel 3 was.is-panel) in
        rw was.answer (changes-few b h s size.within file (mended_byte b h s file) (length file) short same_elsewhere)

    pub promised : Promised panel file (mending panel file out list).0 (take (full_length panel) (mending panel file out list).1) (mending panel file out list).2
    promised =
        rw put-out
        (record {
          back = back;
          passes = check_file panel m b h s true was.is-panel refl refl refl (sym good);
          twice = good_kept m was.is-panel good (mended_padding b h s file);
          in_order = ap (rising 0 (length file)) offsets ∙ in_order_lem file (mended_byte b h s file) (length file);
          unlisted = λ k l d.
              byte_mended b h s file k (omega (arith, short))
              ∙ unlisted_stays file (mended_byte b h s file) (length file) k l (λ i. d (rw offsets i));
          only = λ k l e.
              byte_mended b h s file k (omega (arith, short))
              ∙ same_elsewhere k l e;
          few = few;
          white = byte_white b h s (rows-le panel) (stride_le panel) file was.can;
          padding = byte_after b h s (rows-le panel) (stride_le panel) file was.can;
        })

    -- the longest mended file has 6,398 bytes, and the longest list is of 544 changes
    pub answer_sizes : (length file + (mending panel file out list).0.added ≤ 6398) × ((mending panel file out list).0.changes ≤ 544)
    answer_sizes =
        let small : h * s ≤ 6336 = rows-small h s (rows-le panel) (stride_le panel) in
        let padded : h * (s - b) ≤ 528 =
        each_panel (λ p. rows_of p * (stride_of p - row_bytes_of p) ≤ 528) (omega arith) (omega arith) (omega arith) panel (ltb-true panel 3 was.is-panel) in
        (rw was.answer (omega (arith, short, small)), omega (arith, few, padded))

  -- the parts of an answer are small, refused or not
  pub answer-small : (file out list : List ℕ)
      → let a = (mending panel file out list).0 in (a.changes ≤ 6398) × (a.offset ≤ 6398) × (a.added ≤ 6398)
  answer-small file out list =
      by_answer (λ (left : Told × List ℕ × List ℕ). (left.0.changes ≤ 6398) × (left.0.offset ≤ 6398) × (left.0.added ≤ 6398)) file out list
      (λ n d. (omega arith, omega arith, omega arith))
      (λ p c.
      let small : h * s ≤ 6336 = rows-small h s (rows-le panel) (stride_le panel) in
      let fits : length file ≤ full_length panel = (lengths b h s file c).short in
      let few = count_le file (mended_byte b h s file) (length file) in
      (omega (arith, small, fits, few), offset_small (length file) (full_length panel) 6398 (omega (arith, small, fits)) (dec_lt (length file) (full_length panel)), omega (arith, small)))
    where
      offset_small : (len full most : ℕ) → len ≤ most → Dec (len < full) → (acceptance full len 0).offset ≤ most
      offset_small len full most l (yes q) = rw (lt-ltb len full q) l
      offset_small len full most l (no q) = let k : full ≤ len = omega arith in rw (le-ltb len full k) (omega arith)

-- a contract's equation with `mending` gives what is promised of it
pub promised_of : (panel : ℕ) (file out list : List ℕ) {answer : Told} {out' list' : List ℕ} → (answer, out', list') ≡ mending panel file out list
    → answer.number ≡ 0 → Promised panel file answer (take (full_length panel) out') list'
promised_of panel file out list e z =
    let called : Told × List ℕ × List ℕ = mending panel file out list in
    let n : called.0.number ≡ 0 = ap (λ (c : Told × List ℕ × List ℕ). c.0.number) (sym e) ∙ z in
    subst (λ (c : Told × List ℕ × List ℕ). Promised panel file c.0 (take (full_length panel) c.1) c.2) (sym e) (promised panel file out list n)
