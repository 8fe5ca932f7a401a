-- Exactly one leaf of a tree holds a dot. The boxes are the numbers below n; `parent` is an earlier box, and the first box is the root.
-- `In` says which boxes hold the dot.
-- Assumes nothing.
use mathlib.Core.Path.{◌≡◌, sym, ◌∙◌}
use mathlib.Core.Logic.{◌⊎◌, inl, inr, ⊎_elim}
use Prim.Native.Nat.{ℕ, zero, suc, ◌+◌, ◌≤◌, ◌<◌}
use native.Mathlib.Nat.{eq-zero-or-pos, eq-or-lt_of_le, le_of_suc-le-suc}
use native.Mathlib.Omega.{arith}

-- what is asked of the tree: the root holds the dot; a box that holds it is a leaf or has a child that does; so does a box's parent;
-- and of two children of one box only one does. A leaf is no parent.
pub record Holding (n : ℕ) (parent : ℕ → ℕ) (Leaf In : ℕ → Type 0) : Type 1 where
  pub some : 0 < n
  pub earlier : (c : ℕ) → 0 < c → parent c < c
  pub root : In 0
  pub down : (i : ℕ) → i < n → In i → Leaf i ⊎ ((c : ℕ) × (i < c) × (c < n) × In c)
  pub up : (c : ℕ) → 0 < c → c < n → In c → In (parent c)
  pub same : (c d : ℕ) → 0 < c → 0 < d → c < n → d < n → parent c ≡ parent d → In c → In d → c ≡ d
  pub childless : (c : ℕ) → 0 < c → c < n → Leaf (parent c) → ⊥

module _ (n : ℕ) (parent : ℕ → ℕ) (Leaf In : ℕ → Type 0) (t : Holding n parent Leaf In) where
  -- from a box that holds the dot down to a leaf that does; each child is a later box
  leaf_below : (m i : ℕ) → i < n → n ≤ i + m → In i → (c : ℕ) × (c < n) × Leaf c × In c
  leaf_below zero i h l p = absurd (omega arith)
  leaf_below (suc m) i h l p =
      ⊎_elim
      (λ leaf. (i, h, leaf, p))
      (λ r. leaf_below m r.0 r.2 (omega (arith, r.1)) r.3)
      (t.down i h p)

  pub leaf_some : (c : ℕ) × (c < n) × Leaf c × In c
  leaf_some = leaf_below n 0 t.some (omega arith) t.root

  -- where the boxes before box i are divided, these are the pieces: the root or the children of those, if they are not divided too
  abbrev Piece : ℕ → ℕ → Type 0
  Piece i c = (c < n) × ((c ≡ 0) ⊎ (parent c < i)) × ((i ≤ c) ⊎ Leaf c)

  piece_self : (i : ℕ) → i < n → Piece i i
  piece_self i h = (h, ⊎_elim inl (λ p. inr (t.earlier i p)) (eq-zero-or-pos i), inl (omega arith))

  -- a piece once box i is divided too was one before, or is a child of box i
  piece_before : (i c : ℕ) → Piece (suc i) c → Piece i c ⊎ ((0 < c) × (parent c ≡ i))
  piece_before i c p =
      let rest : (i ≤ c) ⊎ Leaf c = ⊎_elim (λ (l : suc i ≤ c). inl (omega arith)) inr p.2 in
      ⊎_elim
      (λ (e : c ≡ 0). inl (p.0, inl e, rest))
      (λ (some : 0 < c).
      ⊎_elim
      (λ (e : c ≡ 0). absurd (omega arith))
      (λ (l : parent c < suc i).
      ⊎_elim
      (λ (e : parent c ≡ i). inr (some, e))
      (λ (m : parent c < i). inl (p.0, inr m, rest))
      (eq-or-lt_of_le (le_of_suc-le-suc l)))
      p.1)
      (eq-zero-or-pos c)

  -- box i is no piece once its child d is
  divided : (i d : ℕ) → Piece (suc i) i → 0 < d → d < n → parent d ≡ i → ⊥
  divided i d p some h e =
      ⊎_elim (λ (l : suc i ≤ i). omega arith) (λ leaf. t.childless d some h (rw e leaf)) p.2

  -- only one piece holds the dot
  piece_one : (i : ℕ) → i ≤ n → (c d : ℕ) → Piece i c → Piece i d → In c → In d → c ≡ d
  piece_one zero h c d p q a b = first c p ∙ sym (first d q) where
    first : (c : ℕ) → Piece 0 c → c ≡ 0
    first c p = ⊎_elim (λ e. e) (λ (l : parent c < 0). absurd (omega arith)) p.1
  piece_one (suc i) h c d p q a b =
      let one = piece_one i (omega arith) in
      let self : Piece i i = piece_self i (omega arith) in
      ⊎_elim
      (λ (pc : Piece i c).
      ⊎_elim
      (λ (pd : Piece i d). one c d pc pd a b)
      (λ (k : (0 < d) × (parent d ≡ i)).
      let e : c ≡ i = one c i pc self a (rw k.1 at (t.up d k.0 q.0 b)) in
      absurd (divided i d (rw e at p) k.0 q.0 k.1))
      (piece_before i d q))
      (λ (j : (0 < c) × (parent c ≡ i)).
      ⊎_elim
      (λ (pd : Piece i d).
      let e : d ≡ i = one d i pd self b (rw j.1 at (t.up c j.0 p.0 a)) in
      absurd (divided i c (rw e at q) j.0 p.0 j.1))
      (λ (k : (0 < d) × (parent d ≡ i)). t.same c d j.0 k.0 p.0 q.0 (j.1 ∙ sym k.1) a b)
      (piece_before i d q))
      (piece_before i c p)

  -- two leaves that hold the dot are one
  pub leaf_one : (c d : ℕ) → c < n → d < n → Leaf c → Leaf d → In c → In d → c ≡ d
  leaf_one c d h l p q = piece_one n (omega arith) c d (piece c h p) (piece d l q) where
    piece : (c : ℕ) → c < n → Leaf c → Piece n c
    piece c h p = (h, ⊎_elim inl (λ some. inr (omega (arith, t.earlier c some))) (eq-zero-or-pos c), inr p)
