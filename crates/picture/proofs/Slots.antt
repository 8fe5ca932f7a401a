-- Laws of the slots of the lent memory. Only the first section sees how a slot keeps its rows.
-- Assumes nothing.
use mathlib.Core.Path.{◌≡◌, refl, sym, ap, ◌∙◌}
use mathlib.Core.List.{List, ◌++◌, map}
use Prim.Native.Nat.{ℕ, ◌+◌, ◌-◌, ◌*◌, ◌/◌, ◌%◌, ◌^◌, ◌≤◌, ◌<◌}
use native.Mathlib.Nat.{add_assoc, zero-add, suc-mul, add-sub_cancel_left}
use native.Mathlib.Numerals.{add-one}
use native.Mathlib.Omega.{arith}
use native.Mathlib.Decide.{dec_lt}
use lib.Arith.{digits_lt}
use lib.Bits.{bit_and, bit_or}
use lib.ListN.{length, get_or, set, take, drop, replicate, length-drop, take-append-drop}
use lib.Seq.{drop-drop, take-append-le, drop-append-le, ext_get_or}
use Rattle.lists.specs.Lists.{overlay_at}
use Rattle.lists.proofs.Lists.{length-tabulate, length-overlay_at}
use Rattle.panel.specs.Dots.{row_dot, dot}
use Rattle.panel.proofs.Dots.{dot_lt, dot_row}
use Rattle.picture.specs.Pictures.{pack_dots, turned, draw, over, overdrawn}
use Rattle.picture.specs.Slots.{picture_of, raw_of, slot_bytes, with_bytes, slot_picture, with_picture, picture_row, painted}
use Rattle.picture.specs.Facts.{SlotIn}
use Rattle.lists.proofs.Parts.{more_rows, part_length_lem, part_own, part_before, part_after, overlay_at_own}
use Rattle.picture.proofs.Pictures.{Bytes, Dots, bytes_take, bytes_drop, Inside, or_white, and_black, length-draw, bytes_draw, dot_draw, draw_cong, draw_dot, set_byte, set-bit, set_row, over-out, over_cong, over-lt, over_part, over_row}

-- h rows of b bytes
abbrev pub Rows : (b h : ℕ) (l : List ℕ) → Type 0
Rows b h l = (length l ≡ h * b) × Bytes l

-- ---- how a slot keeps its rows

-- row y, copied by the bytes that hold it
pub row_copied : (b h : ℕ) (l : List ℕ) (y at : ℕ) (out out' : List ℕ)
    → out' ≡ overlay_at at (take (y * b + b - y * b) (drop (y * b) l)) out → out' ≡ overlay_at at (picture_row b (picture_of b h l) y) out
unfolding picture_of
row_copied b h l y at out out' e = rw (add-sub_cancel_left (y * b) b) at e

-- row y, replaced by its bytes turned over
pub row_turned : (b h : ℕ) (l : List ℕ) (y : ℕ) (rows : List ℕ) (at : ℕ) (l' : List ℕ)
    → l' ≡ overlay_at (y * b) (map turned (take (at + b - at) (drop at rows))) l
    → l' ≡ raw_of b h (overlay_at (y * b) (map turned (take b (drop at rows))) (picture_of b h l))
unfolding picture_of raw_of
row_turned b h l y rows at l' e = rw (add-sub_cancel_left at b) at e

-- row y of a slot, by the bytes of the memory that hold it
pub row_of_slot : (b h : ℕ) (m : List ℕ) (slot y : ℕ) → slot * (h * b) + h * b ≤ length m → y < h
    → take b (drop (slot * (h * b) + y * b) m) ≡ picture_row b (slot_picture b h m slot) y
unfolding slot_picture picture_of slot_bytes
row_of_slot b h m slot y fits low =
    let rest : List ℕ = drop (slot * (h * b)) m in
    let long : length (take (h * b) rest) ≡ h * b = part_length_lem (slot * (h * b)) (h * b) m fits in
    let more : y * b + b ≤ h * b = more_rows y h b low in
    ap (take b) (sym (drop-drop (y * b) (slot * (h * b)) m))
    ∙ ap (λ (l : List ℕ). take b (drop (y * b) l)) (sym (take-append-drop (h * b) rest))
    ∙ ap (take b) (drop-append-le (y * b) (take (h * b) rest) (drop (h * b) rest) (omega arith))
    ∙ take-append-le b (drop (y * b) (take (h * b) rest)) (drop (h * b) rest) (rw length-drop (omega arith))

-- the bytes that hold a picture are as many as its own, whatever these are
pub length_raw : (b h : ℕ) (picture : List ℕ) → length picture ≡ h * b → length (raw_of b h picture) ≡ h * b
unfolding raw_of
length_raw b h picture e = e

pub length_picture : (b h : ℕ) (l : List ℕ) → length l ≡ h * b → length (picture_of b h l) ≡ h * b
unfolding picture_of
length_picture b h l e = e

-- bytes FF hold a picture of bytes FF
pub blank_picture : (b h : ℕ) → picture_of b h (replicate (h * b) 0xFF) ≡ replicate (h * b) 0xFF
unfolding picture_of
blank_picture b h = refl

module _ (b h : ℕ) (pos : 0 < b) where
  pub picture_raw : (l : List ℕ) → Rows b h l → picture_of b h (raw_of b h l) ≡ l
  unfolding picture_of raw_of
  picture_raw l r = refl

  pub raw_picture : (l : List ℕ) → Rows b h l → raw_of b h (picture_of b h l) ≡ l
  unfolding picture_of raw_of
  raw_picture l r = refl

  pub rows_picture : (l : List ℕ) → Rows b h l → Rows b h (picture_of b h l)
  unfolding picture_of
  rows_picture l r = r

  pub rows_raw : (l : List ℕ) → Rows b h l → Rows b h (raw_of b h l)
  unfolding raw_of
  rows_raw l r = r

  -- eight dots replaced, by the byte that holds them: the k-th from dot x on
  pub painted_byte : (l : List ℕ) → Rows b h l → (x y k v : ℕ) (f : ℕ → ℕ) → x % 8 ≡ 0 → x + 8 * k < 8 * b → y < h → ((u : ℕ) → f u < 2)
      → v ≡ pack_dots f → set l (y * b + x / 8 + k) v ≡ painted b h l (x + 8 * k) y 8 1 (λ u _. f u)
  unfolding picture_of raw_of painted overdrawn
  painted_byte l r x y k v f z hx hy d e =
      let at : y * b + x / 8 + k ≡ y * b + (x / 8 + k) = omega arith in
      let to : x + 8 * k ≡ (x / 8 + k) * 8 = omega arith in
      rw (e, at, to) (set_byte b h pos l r.1 r.0 (x / 8 + k) y f (omega arith) hy d)

  -- one dot made white or black, by the byte that holds it
  module _ (l : List ℕ) (r : Rows b h l) (x y v : ℕ) (hx : x < 8 * b) (hy : y < h) where
    pub painted_white : v ≡ 1
        → set l (y * b + x / 8) (bit_or (get_or l (y * b + x / 8) 0) (128 / 2 ^ (x % 8))) ≡ painted b h l x y 1 1 (λ _ _. v)
    unfolding picture_of raw_of painted overdrawn
    painted_white e =
        rw (e, or_white (get_or l (y * b + x / 8) 0) (x % 8) (r.1 (y * b + x / 8)) (omega arith))
        (set-bit b h pos l r.1 r.0 x y 1 hx hy (omega arith))

    pub painted_black : v ≡ 0
        → set l (y * b + x / 8) (bit_and (get_or l (y * b + x / 8) 0) (255 - 128 / 2 ^ (x % 8))) ≡ painted b h l x y 1 1 (λ _ _. v)
    unfolding picture_of raw_of painted overdrawn
    painted_black e =
        rw (e, and_black (get_or l (y * b + x / 8) 0) (x % 8) (r.1 (y * b + x / 8)) (omega arith))
        (set-bit b h pos l r.1 r.0 x y 0 hx hy (omega arith))

  -- ---- painting, however the rows are kept

  rows-draw : (f : ℕ → ℕ → ℕ) → Dots f → Rows b h (draw b h f)
  rows-draw f d = (length-draw b h pos f, bytes_draw b h pos f d)

  pub rows-overdrawn : (p : List ℕ) (x y w k : ℕ) (new : ℕ → ℕ → ℕ) → Dots new → Rows b h (overdrawn b h p x y w k new)
  unfolding overdrawn
  rows-overdrawn p x y w k new d = rows-draw (over x y w k new (dot b p)) (over-lt x y w k new (dot b p) d (dot_lt b p))

  pub rows-painted : (l : List ℕ) (x y w k : ℕ) (new : ℕ → ℕ → ℕ) → Dots new → Rows b h (painted b h l x y w k new)
  unfolding painted
  rows-painted l x y w k new d =
      rows_raw (overdrawn b h (picture_of b h l) x y w k new) (rows-overdrawn (picture_of b h l) x y w k new d)

  -- every dot of a picture with a rectangle replaced
  pub dot_overdrawn : (p : List ℕ) (x y w k : ℕ) (new : ℕ → ℕ → ℕ) → Dots new → (u v : ℕ) → u < 8 * b → v < h
      → dot b (overdrawn b h p x y w k new) u v ≡ over x y w k new (dot b p) u v
  unfolding overdrawn
  dot_overdrawn p x y w k new d = dot_draw b h pos (over x y w k new (dot b p)) (over-lt x y w k new (dot b p) d (dot_lt b p))

  -- an empty rectangle changes nothing
  painted_none : (l : List ℕ) → Rows b h l → (x y w k : ℕ) (new : ℕ → ℕ → ℕ) → ((u v : ℕ) → Inside x y w k u v → ⊥)
      → l ≡ painted b h l x y w k new
  unfolding painted overdrawn
  painted_none l r x y w k new z =
      let p : List ℕ = picture_of b h l in
      let q : Rows b h p = rows_picture l r in
      sym (raw_picture l r)
      ∙ ap (λ (t : List ℕ). raw_of b h t)
      (sym (draw_dot b h pos p q.1 q.0)
      ∙ draw_cong b h pos (dot b p) (over x y w k new (dot b p)) (λ u v hu hv. sym (over-out x y w k new (dot b p) u v (z u v))))

  -- painted twice
  painted-painted : (l : List ℕ) (x y w k x' y' w' k' w'' k'' : ℕ) (new new' : ℕ → ℕ → ℕ) → Dots new
      → ((u v : ℕ) → over x' y' w' k' new' (over x y w k new (dot b (picture_of b h l))) u v ≡ over x y w'' k'' new (dot b (picture_of b h l)) u v)
      → painted b h (painted b h l x y w k new) x' y' w' k' new' ≡ painted b h l x y w'' k'' new
  unfolding painted overdrawn
  painted-painted l x y w k x' y' w' k' w'' k'' new new' d e =
      let old : ℕ → ℕ → ℕ = dot b (picture_of b h l) in
      let f : ℕ → ℕ → ℕ = over x y w k new old in
      let df : Dots f = over-lt x y w k new old d (dot_lt b (picture_of b h l)) in
      rw (picture_raw (draw b h f) (rows-draw f df))
      (ap (λ (t : List ℕ). raw_of b h t)
      (draw_cong b h pos (over x' y' w' k' new' (dot b (draw b h f))) (over x y w'' k'' new old)
      (λ u v hu hv. over_cong x' y' w' k' new' (dot b (draw b h f)) u v f (dot_draw b h pos f df u v hu hv) ∙ e u v)))

  -- n dots more of a row, and one row more
  painted_part : (l : List ℕ) (x y i n : ℕ) (new part : ℕ → ℕ → ℕ) → Dots new → ((u : ℕ) → u < n → part u 0 ≡ new (i + u) 0)
      → painted b h (painted b h l x y i 1 new) (x + i) y n 1 part ≡ painted b h l x y (i + n) 1 new
  painted_part l x y i n new part d same =
      painted-painted l x y i 1 (x + i) y n 1 (i + n) 1 new part d (over_part x y i n new part (dot b (picture_of b h l)) same)

  painted_row : (l : List ℕ) (x y w j : ℕ) (new row : ℕ → ℕ → ℕ) → Dots new → ((u : ℕ) → u < w → row u 0 ≡ new u j)
      → painted b h (painted b h l x y w j new) x (y + j) w 1 row ≡ painted b h l x y w (j + 1) new
  painted_row l x y w j new row d same =
      painted-painted l x y w j x (y + j) w 1 w (j + 1) new row d (over_row x y w j new row (dot b (picture_of b h l)) same)

  -- a part of a row more, and the turns of the loops over dots, bytes and rows, from the bytes t to the bytes t'
  part_more : (l t t' : List ℕ) (x y i n : ℕ) (new part : ℕ → ℕ → ℕ) → Dots new → ((u : ℕ) → u < n → part u 0 ≡ new (i + u) 0)
      → t ≡ painted b h l x y i 1 new → t' ≡ painted b h t (x + i) y n 1 part
      → (length t' ≡ h * b) × (t' ≡ painted b h l x y (i + n) 1 new)
  part_more l t t' x y i n new part d same e r =
      let f : t' ≡ painted b h l x y (i + n) 1 new = r ∙ rw e (painted_part l x y i n new part d same) in
      (ap length f ∙ (rows-painted l x y (i + n) 1 new d).0, f)

  pub dot_more : (l t t' : List ℕ) (x y k v : ℕ) (new : ℕ → ℕ → ℕ) → Dots new
      → t ≡ painted b h l x y k 1 new → v ≡ new k 0 → t' ≡ painted b h t (x + k) y 1 1 (λ _ _. v)
      → (length t' ≡ h * b) × (t' ≡ painted b h l x y (k + 1) 1 new)
  dot_more l t t' x y k v new d e q =
      part_more l t t' x y k 1 new (λ _ _. v) d (λ u hu. let f : k + u ≡ k = omega arith in rw (q, f)) e

  pub byte_more : (l t t' : List ℕ) (x y k i : ℕ) (f : ℕ → ℕ) → ((u : ℕ) → f u < 2)
      → t ≡ painted b h l x y (8 * k) 1 (λ u _. f (i + u)) → (Rows b h t → t' ≡ painted b h t (x + 8 * k) y 8 1 (λ u _. f (i + 8 * k + u)))
      → (length t' ≡ h * b) × (t' ≡ painted b h l x y (8 * (k + 1)) 1 (λ u _. f (i + u)))
  byte_more l t t' x y k i f d e r =
      let new : ℕ → ℕ → ℕ = λ u _. f (i + u) in
      let dots : Dots new = λ u _. d (i + u) in
      let n : 8 * (k + 1) ≡ 8 * k + 8 = omega arith in
      rw n (part_more l t t' x y (8 * k) 8 new (λ u _. f (i + 8 * k + u)) dots (λ u hu. ap f (add_assoc i (8 * k) u)) e
      (r (rw e (rows-painted l x y (8 * k) 1 new dots))))

  -- a row painted in three parts, the second from dot i on and the third from dot k on
  pub row_parts : (l t₁ t₂ t₃ : List ℕ) (x y i n k w : ℕ) (f : ℕ → ℕ) → ((u : ℕ) → f u < 2) → k ≡ i + n → k ≤ w
      → t₁ ≡ painted b h l x y i 1 (λ u _. f (0 + u)) → t₂ ≡ painted b h t₁ (x + i) y n 1 (λ u _. f (i + u))
      → t₃ ≡ painted b h t₂ (x + k) y (w - k) 1 (λ u _. f (k + u)) → t₃ ≡ painted b h l x y w 1 (λ u _. f u)
  row_parts l t₁ t₂ t₃ x y i n k w f d q m e₁ e₂ e₃ =
      let new : ℕ → ℕ → ℕ = λ u _. f u in
      let dots : Dots new = λ u _. d u in
      let p₁ : t₁ ≡ painted b h l x y i 1 new = simp zero-add at e₁ in
      let p₂ : t₂ ≡ painted b h l x y k 1 new = rw q (part_more l t₁ t₂ x y i n new (λ u _. f (i + u)) dots (λ u _. refl) p₁ e₂).1 in
      let z : k + (w - k) ≡ w = omega arith in
      rw z at (part_more l t₂ t₃ x y k (w - k) new (λ u _. f (k + u)) dots (λ u _. refl) p₂ e₃).1

  pub row_more : (l t t' : List ℕ) (x y w j : ℕ) (new row : ℕ → ℕ → ℕ) → Dots new → ((u : ℕ) → u < w → row u 0 ≡ new u j)
      → t ≡ painted b h l x y w j new → t' ≡ painted b h t x (y + j) w 1 row
      → (length t' ≡ h * b) × (t' ≡ painted b h l x y w (j + 1) new)
  row_more l t t' x y w j new row d same e r =
      let f : t' ≡ painted b h l x y w (j + 1) new = r ∙ rw e (painted_row l x y w j new row d same) in
      (ap length f ∙ (rows-painted l x y w (j + 1) new d).0, f)

  -- a row painted from its first dot to its last has new bytes
  row_whole : (l : List ℕ) → Rows b h l → (y : ℕ) → y < h → (row : List ℕ) → Bytes row → length row ≡ b
      → painted b h l 0 y (8 * b) 1 (λ u _. row_dot row u) ≡ raw_of b h (overlay_at (y * b) row (picture_of b h l))
  unfolding painted overdrawn
  row_whole l r y hy row d e =
      let q : Rows b h (picture_of b h l) = rows_picture l r in
      ap (raw_of b h) (sym (set_row b h pos (picture_of b h l) q.1 q.0 row d e y hy))

-- ---- rows of any length, of no bytes too

-- all slots with rows of no bytes are the same
no_bytes : (b h : ℕ) → (0 < b → ⊥) → (l m : List ℕ) → length l ≡ h * b → length m ≡ h * b → l ≡ m
no_bytes b h n l m p q =
    let z : b ≡ 0 = omega arith in
    let e : h * 0 ≡ 0 = omega arith in
    let f : length l ≡ 0 = p ∙ ap (λ (c : ℕ). h * c) z ∙ e in
    ext_get_or 0 l m (p ∙ sym q) (λ k k_lt. absurd (omega arith))

length-painted : (b h : ℕ) (l : List ℕ) (x y w k : ℕ) (new : ℕ → ℕ → ℕ) → length (painted b h l x y w k new) ≡ h * b
unfolding painted overdrawn draw
length-painted b h l x y w k new =
    length_raw b h (overdrawn b h (picture_of b h l) x y w k new) (length-tabulate (h * b) _)

-- an empty rectangle changes nothing
pub none_painted : (b h : ℕ) (l : List ℕ) → Rows b h l → (x y w k : ℕ) (new : ℕ → ℕ → ℕ) → ((u v : ℕ) → Inside x y w k u v → ⊥)
    → l ≡ painted b h l x y w k new
none_painted b h l r x y w k new z =
    elim (dec_lt 0 b) [
      | yes pos ↦ painted_none b h pos l r x y w k new z
      | no n ↦ no_bytes b h n l (painted b h l x y w k new) r.0 (length-painted b h l x y w k new)
    ]

-- a row painted from its first dot to its last is a row replaced
pub row_put : (b h : ℕ) (l : List ℕ) → Rows b h l → (y : ℕ) → y < h → (rows : List ℕ) → Bytes rows → (at : ℕ) → at + b ≤ length rows
    → (l' : List ℕ) → l' ≡ painted b h l 0 y (8 * b) 1 (λ u _. row_dot (take (at + b - at) (drop at rows)) u)
    → l' ≡ raw_of b h (overlay_at (y * b) (take b (drop at rows)) (picture_of b h l))
row_put b h l r y hy rows d at fits l' e = q ∙ go (dec_lt 0 b)
  where
    row : List ℕ
    row = take b (drop at rows)

    long : length row ≡ b
    long = part_length_lem at b rows fits

    whole : List ℕ
    whole = painted b h l 0 y (8 * b) 1 (λ u _. row_dot row u)

    q : l' ≡ whole
    q = rw (add-sub_cancel_left at b) at e

    within : y * b + length row ≤ length (picture_of b h l)
    within = omega (arith, more_rows y h b hy, long, length_picture b h l r.0)

    go : Dec (0 < b) → whole ≡ raw_of b h (overlay_at (y * b) row (picture_of b h l))
    go (yes pos) = row_whole b h pos l r y hy row (bytes_take b (drop at rows) (bytes_drop at rows d)) long
    go (no n) =
        no_bytes b h n whole (raw_of b h (overlay_at (y * b) row (picture_of b h l))) (length-painted b h l 0 y (8 * b) 1 (λ u _. row_dot row u))
        (length_raw b h (overlay_at (y * b) row (picture_of b h l)) (length-overlay_at (y * b) (picture_of b h l) row within ∙ length_picture b h l r.0))

-- the byte of dot x of row y is one of the slot
pub dot_place : (b h x y n : ℕ) → n ≡ h * b → x < 8 * b → y < h → y * b + x / 8 < n
dot_place b h x y n e hx hy = rw e (digits_lt hy (omega arith))

-- row j of n rows of b bytes, lent as a part of them
pub row_ends : (j n b : ℕ) → j < n → (b ≤ (j + 1) * b) × ((j + 1) * b ≤ n * b)
row_ends j n b h =
    let m : (j + 1) * b ≡ j * b + b = rw (add-one, suc-mul) in
    (omega arith, omega (arith, more_rows j n b h))

pub row_lent : (b : ℕ) (rows : List ℕ) (j u : ℕ) → u < 8 * b
    → row_dot (take ((j + 1) * b - ((j + 1) * b - b)) (drop ((j + 1) * b - b) rows)) u ≡ dot b rows u j
row_lent b rows j u h =
    let m : (j + 1) * b ≡ j * b + b = rw (add-one, suc-mul) in
    let e : j * b + b - b ≡ j * b = omega arith in
    let f : j * b + b - j * b ≡ b = omega arith in
    rw (m, e, f) (dot_row b rows u j h)

-- ---- the slots of the memory

module _ (b h : ℕ) (m : List ℕ) (slot : ℕ) (fits : slot * (h * b) + h * b ≤ length m) where
  module _ (raw : List ℕ) (e : length raw ≡ h * b) where
    pub length_with : length (with_bytes b h m slot raw) ≡ length m
    unfolding with_bytes
    length_with = length-overlay_at (slot * (h * b)) m raw (omega arith)

    -- what is put into a slot is what it holds
    pub bytes_same : slot_bytes b h (with_bytes b h m slot raw) slot ≡ raw
    unfolding slot_bytes with_bytes
    bytes_same = part_own (slot * (h * b)) m raw (omega arith) (h * b) e

    -- every other slot holds what it held
    pub bytes_other : (t : ℕ) → (t ≡ slot → ⊥) → slot_bytes b h (with_bytes b h m slot raw) t ≡ slot_bytes b h m t
    unfolding slot_bytes with_bytes
    bytes_other t n =
        elim (dec_lt t slot) [
          | yes l ↦ part_before (slot * (h * b)) m raw (omega arith) (t * (h * b)) (h * b) (more_rows t slot (h * b) l)
          | no l ↦ part_after (slot * (h * b)) m raw (omega arith) (t * (h * b)) (h * b) (omega (arith, more_rows slot t (h * b) (omega arith)))
        ]

  -- the bytes that a slot holds, put into it
  pub with_own : with_bytes b h m slot (slot_bytes b h m slot) ≡ m
  unfolding with_bytes slot_bytes
  with_own = overlay_at_own (slot * (h * b)) (h * b) m fits

  -- the same of pictures
  pub picture_other : (p : List ℕ) → length p ≡ h * b → (t : ℕ) → (t ≡ slot → ⊥)
      → slot_picture b h (with_picture b h m slot p) t ≡ slot_picture b h m t
  unfolding slot_picture with_picture
  picture_other p e t n = ap (picture_of b h) (bytes_other (raw_of b h p) (length_raw b h p e) t n)

  module _ (pos : 0 < b) (p : List ℕ) (r : Rows b h p) where
    pub length_with_picture : length (with_picture b h m slot p) ≡ length m
    unfolding with_picture
    length_with_picture = length_with (raw_of b h p) (rows_raw b h pos p r).0

    pub picture_same : slot_picture b h (with_picture b h m slot p) slot ≡ p
    unfolding slot_picture with_picture
    picture_same = ap (picture_of b h) (bytes_same (raw_of b h p) (rows_raw b h pos p r).0) ∙ picture_raw b h pos p r

  -- the picture that a slot holds, put into it
  module _ (pos : 0 < b) (bytes : Bytes m) where
    rows_bytes : Rows b h (slot_bytes b h m slot)
    unfolding slot_bytes
    rows_bytes = (
      part_length_lem (slot * (h * b)) (h * b) m fits,
      bytes_take (h * b) (drop (slot * (h * b)) m) (bytes_drop (slot * (h * b)) m bytes),
    )

    pub rows-slot : Rows b h (slot_picture b h m slot)
    unfolding slot_picture
    rows-slot = rows_picture b h pos (slot_bytes b h m slot) rows_bytes

    pub with_own_picture : with_picture b h m slot (slot_picture b h m slot) ≡ m
    unfolding with_picture slot_picture
    with_own_picture = ap (with_bytes b h m slot) (raw_picture b h pos (slot_bytes b h m slot) rows_bytes) ∙ with_own

-- ---- a slot that is lent as a part of the memory

module _ (b h : ℕ) (m : List ℕ) (slot : ℕ) where
  pub lent_picture : picture_of b h (take (slot * (h * b) + h * b - slot * (h * b)) (drop (slot * (h * b)) m)) ≡ slot_picture b h m slot
  unfolding slot_picture slot_bytes
  lent_picture = rw (add-sub_cancel_left (slot * (h * b)) (h * b))

  -- it comes back with a picture
  pub lent_back : (p part : List ℕ) → length p ≡ h * b → part ≡ raw_of b h p
      → take (slot * (h * b)) m ++ (part ++ drop (slot * (h * b) + h * b - slot * (h * b)) (drop (slot * (h * b)) m))
      ≡ with_picture b h m slot p
  unfolding with_picture with_bytes
  lent_back p part e is = rw (is, add-sub_cancel_left (slot * (h * b)) (h * b), length_raw b h p e)

-- ---- a memory of slots 0 to n

module _ (b h n memory_length : ℕ) (exact : memory_length ≡ (n + 1) * (h * b)) where
  pub slot-fits : (slot : ℕ) → slot ≤ n → slot * (h * b) + h * b ≤ memory_length
  slot-fits slot le = rw exact (more_rows slot (n + 1) (h * b) (omega arith))

  pub slot_in : (slot : ℕ) → n ≤ 7 → slot ≤ n → SlotIn b h memory_length slot
  slot_in slot few le = record { few = omega arith; fits = slot-fits slot le }

module _ (b h n : ℕ) (memory : List ℕ) (exact : length memory ≡ (n + 1) * (h * b)) where
  slot-inside : (slot : ℕ) → slot ≤ n → slot * (h * b) + h * b ≤ length memory
  slot-inside = slot-fits b h n (length memory) exact

  -- a picture put into a slot leaves every other slot
  pub others_kept : (slot : ℕ) → slot ≤ n → (picture : List ℕ) → length picture ≡ h * b → (t : ℕ) → (t ≡ slot → ⊥)
      → slot_picture b h (with_picture b h memory slot picture) t ≡ slot_picture b h memory t
  others_kept slot le = picture_other b h memory slot (slot-inside slot le)

  length_bytes : (slot : ℕ) → slot ≤ n → length (slot_bytes b h memory slot) ≡ h * b
  unfolding slot_bytes
  length_bytes slot le = part_length_lem (slot * (h * b)) (h * b) memory (slot-inside slot le)

  -- a slot copied to slot 0 is what slot 0 holds
  pub copied : (slot : ℕ) → slot ≤ n
      → slot_picture b h (with_bytes b h memory 0 (slot_bytes b h memory slot)) 0 ≡ slot_picture b h memory slot
  unfolding slot_picture
  copied slot le =
      ap (picture_of b h) (bytes_same b h memory 0 (slot-inside 0 (omega arith)) (slot_bytes b h memory slot) (length_bytes slot le))
