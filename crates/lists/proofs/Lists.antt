-- Laws of `tabulate`, `overlay` and `overlay_at`.
-- Assumes nothing.
use mathlib.Core.Path.{◌≡◌, refl, sym, ap, ◌∙◌}
use mathlib.Core.List.{List, [], ◌∷◌, ◌++◌, append_assoc, append-nil}
use mathlib.Core.Logic.{⊎_elim}
use Prim.Native.Nat.{ℕ, zero, suc, ◌+◌, ◌≤◌, ◌<◌}
use native.Mathlib.Nat.{add_assoc, eq-or-lt_of_le, not-suc-le-zero, le_of_suc-le-suc}
use native.Mathlib.Numerals.{add-one}
use native.Mathlib.Omega.{arith}
use lib.ListN.{length, get_or, set, take, drop, length-append, length-drop, take-append-drop, drop_of_length-le, get_or-append}
use lib.Seq.{drop-cons, set_at, append_snoc, get_or_at, length-take-le, take_at, drop_at, drop-drop, ext_get_or, take-suc}
use Rattle.lists.specs.Lists.{tabulate, overlay, overlay_at}

-- ---- tabulate

pub length-tabulate : (n : ℕ) (f : ℕ → ℕ) → length (tabulate n f) ≡ n
length-tabulate zero f = refl
length-tabulate (suc n) f = length-append (tabulate n f) (f n ∷ []) ∙ rw (length-tabulate n f) (add-one n)

pub get_or-tabulate : (n : ℕ) (f : ℕ → ℕ) (i d : ℕ) → i < n → get_or (tabulate n f) i d ≡ f i
get_or-tabulate zero f i d h = absurd (not-suc-le-zero h)
get_or-tabulate (suc n) f i d h =
    ⊎_elim
    (λ (e : i ≡ n). rw e (get_or_at (tabulate n f) (f n) [] d n (length-tabulate n f)))
    (λ (l : i < n).
    get_or-append (tabulate n f) (f n ∷ []) d i (rw (length-tabulate n f) l)
    ∙ get_or-tabulate n f i d l)
    (eq-or-lt_of_le (le_of_suc-le-suc h))

pub tabulate_cong : (n : ℕ) (f g : ℕ → ℕ) → ((k : ℕ) → k < n → f k ≡ g k) → tabulate n f ≡ tabulate n g
tabulate_cong n f g e =
    ext_get_or 0 (tabulate n f) (tabulate n g) (length-tabulate n f ∙ sym (length-tabulate n g))
    (λ k h.
    let l : k < n = rw length-tabulate at h in
    get_or-tabulate n f k 0 l ∙ e k l ∙ sym (get_or-tabulate n g k 0 l))

-- a list is the table of a rule that each of its elements keeps
pub is-tabulate : (l : List ℕ) (n : ℕ) (f : ℕ → ℕ) → length l ≡ n → ((k : ℕ) → k < n → get_or l k 0 ≡ f k) → l ≡ tabulate n f
is-tabulate l n f e p =
    ext_get_or 0 l (tabulate n f) (e ∙ sym (length-tabulate n f))
    (λ k h. let b : k < n = omega (arith, e) in p k b ∙ sym (get_or-tabulate n f k 0 b))

-- the next m elements of a table are a table of their own
pub tabulate-add : (n m : ℕ) (f : ℕ → ℕ) → tabulate (n + m) f ≡ tabulate n f ++ tabulate m (λ i. f (n + i))
tabulate-add n zero f = let e : n + 0 ≡ n = omega arith in rw (e, append-nil)
tabulate-add n (suc m) f =
    let e : n + suc m ≡ suc (n + m) = omega arith in
    rw (e, tabulate-add n m f) (append_assoc (tabulate n f) (tabulate m (λ i. f (n + i))) (f (n + m) ∷ []))

-- ---- overlay

pub length-overlay : (bytes out : List ℕ) → length bytes ≤ length out → length (overlay bytes out) ≡ length out
length-overlay bytes out h = simp (length-append, length-drop) (omega arith)

-- the bytes that were laid over are the first ones
pub take-overlay : (bytes out : List ℕ) → take (length bytes) (overlay bytes out) ≡ bytes
take-overlay bytes out = take_at bytes (drop (length bytes) out) (length bytes) refl

-- a list laid over another that is no longer is what is left
pub overlay-whole : (bytes out : List ℕ) → length out ≤ length bytes → overlay bytes out ≡ bytes
overlay-whole bytes out h = rw (drop_of_length-le out h) (append-nil bytes)

-- ---- overlay_at

module _ (at : ℕ) (out : List ℕ) where
  pub overlay_at_none : out ≡ overlay_at at [] out
  overlay_at_none = sym (take-append-drop at out)

  pub length-overlay_at : (bytes : List ℕ) → at + length bytes ≤ length out → length (overlay_at at bytes out) ≡ length out
  length-overlay_at bytes h =
      let e : length (take at out) ≡ at = length-take-le at out (omega arith) in
      rw (length-append, e, length-overlay bytes (drop at out) (simp length-drop (omega arith)), length-drop) (omega arith)

  overlay_at_front : (bytes : List ℕ)
      → overlay_at at bytes out ≡ (take at out ++ bytes) ++ drop (at + length bytes) out
  overlay_at_front bytes = rw (drop-drop (length bytes) at out) (sym (append_assoc (take at out) bytes (drop (at + length bytes) out)))

  length_front : (bytes : List ℕ) → at ≤ length out → length (take at out ++ bytes) ≡ at + length bytes
  length_front bytes h = rw (length-append, length-take-le at out h)

  -- what stands up to the end of the bytes that were laid over, and what stands after them
  pub take-overlay_at : (bytes : List ℕ) (end : ℕ) → end ≡ at + length bytes → at ≤ length out
      → take end (overlay_at at bytes out) ≡ take at out ++ bytes
  take-overlay_at bytes end e h =
      rw (overlay_at_front bytes) (take_at (take at out ++ bytes) _ end (length_front bytes h ∙ sym e))

  pub drop-overlay_at : (bytes : List ℕ) (end : ℕ) → end ≡ at + length bytes → at ≤ length out
      → drop end (overlay_at at bytes out) ≡ drop end out
  drop-overlay_at bytes end e h =
      rw (overlay_at_front bytes, drop_at (take at out ++ bytes) (drop (at + length bytes) out) end (length_front bytes h ∙ sym e), e)

  -- one byte more, right after those that are there already
  pub overlay_at_more : (bytes d : List ℕ) (i v : ℕ) → d ≡ overlay_at at bytes out → i ≡ at + length bytes → i < length out
      → set d i v ≡ overlay_at at (bytes ++ (v ∷ [])) out
  overlay_at_more bytes d i v e p h =
      let front : List ℕ = take at out ++ bytes in
      let rest : List ℕ = drop (suc i) out in
      let s : drop (at + length bytes) out ≡ get_or out i 0 ∷ rest = rw (← p) (drop-cons out i 0 h) in
      let l : at + length (bytes ++ (v ∷ [])) ≡ suc i = rw length-append (omega arith) in
      rw (e, overlay_at_front bytes, s, overlay_at_front (bytes ++ (v ∷ [])), l)
      (set_at front (get_or out i 0) rest v i (length_front bytes (omega arith) ∙ sym p)
      ∙ sym (append_snoc front v rest)
      ∙ ap (λ (r : List ℕ). r ++ rest) (append_assoc (take at out) bytes (v ∷ [])))

  -- more bytes, right after those that are there already
  pub overlay_at_next : (bytes next : List ℕ) (end : ℕ) → end ≡ at + length bytes → end ≤ length out
      → overlay_at end next (overlay_at at bytes out) ≡ overlay_at at (bytes ++ next) out
  overlay_at_next bytes next end e h =
      rw (take-overlay_at bytes end e (omega arith), drop-overlay_at bytes end e (omega arith))
      (append_assoc (take at out) bytes (overlay next (drop end out))
      ∙ rw (append_assoc bytes next, length-append, drop-drop, drop-drop, e, ← add_assoc))

  -- the turns of two loops: over a table, and over a copy
  pub table_more : (f : ℕ → ℕ) (d : List ℕ) (j i v : ℕ) → d ≡ overlay_at at (tabulate j f) out → i ≡ at + j → v ≡ f j → i < length out
      → set d i v ≡ overlay_at at (tabulate (j + 1) f) out
  table_more f d j i v e p w h =
      rw (add-one, w) (overlay_at_more (tabulate j f) d i (f j) e (p ∙ ap (λ (n : ℕ). at + n) (sym (length-tabulate j f))) h)

  pub copy_more : (bytes d : List ℕ) (j i : ℕ) → d ≡ overlay_at at (take j bytes) out → i ≡ at + j → j < length bytes → i < length out
      → set d i (get_or bytes j 0) ≡ overlay_at at (take (j + 1) bytes) out
  copy_more bytes d j i e p l h =
      rw (add-one, take-suc bytes j 0 l)
      (overlay_at_more (take j bytes) d i (get_or bytes j 0) e (p ∙ ap (λ (n : ℕ). at + n) (sym (length-take-le j bytes (omega arith)))) h)
