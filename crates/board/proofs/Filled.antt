-- What a call of a fill leaves, whichever it is: the slot being filled and the fill change, and nothing else.
-- Assumes nothing.
use mathlib.Core.Path.{◌≡◌, refl, sym, ap, ◌∙◌}
use mathlib.Core.Bool.{Bool, true, false, cond, not, false≢true}
use mathlib.Core.List.{List, [], ◌∷◌, ◌++◌}
use Prim.Native.Nat.{ℕ, ◌+◌, ◌*◌, ◌≤◌}
use native.Mathlib.Omega.{arith}
use borrow.Author.Tests.{eqb-true, eqb-false, not-true, not-false}
use lib.Dec.{eqb}
use lib.ListN.{length}
use Rattle.panel.specs.Facts.{Sized}
use Rattle.panel.specs.Panels.{Sizes}
use Rattle.panel.proofs.Panels.{size_of}
use Rattle.settings.specs.Settings.{panel_of}
use Rattle.settings.proofs.Accepted.{good-panel}
use Rattle.picture.specs.Slots.{picture_of, slot_bytes, slot_picture}
use Rattle.picture.proofs.Slots.{slot-fits, bytes_other}
use Rattle.lists.specs.Rules.{case, first_of}
use Rattle.lists.proofs.Parts.{part_length_lem}
use Rattle.lists.proofs.Rules.{by_test}
use Rattle.fill.specs.declared.Fill.{Fill}
use Rattle.fill_calls.specs.declared.Fed.{Fed}
use Rattle.bitmap.specs.Header.{file_length}
use Rattle.bitmap_prefix.specs.Begins.{begins_good}
use Rattle.fill.specs.Fills.{empty_fill, rows_come, fill_of}
use Rattle.fill.specs.Feeding.{bytes_fed}
use Rattle.fill_calls.specs.Calls.{goes_on, fed, ended, feeding, finishing, cancelling}
use Rattle.fill.specs.Conditions.{fill_valid}
use Rattle.fill.proofs.Kept.{long, Stands, stands}
use Rattle.fill_calls.proofs.Kept.{valid_kept, valid-ended}
use Rattle.fill_calls.proofs.SoFar.{fill_so_far}
use Rattle.fill.proofs.Written.{chunk_unwritten}
use Rattle.fill_calls.proofs.Sizes.{length-fed, length-finished, rows-cancelled}
use Rattle.slots.specs.Slots.{chunk_writes, finish_writes}
use Rattle.store.specs.Refusals.{is_filling}
use Rattle.store.proofs.Conditions.{valid-state}
use Rattle.board.specs.State.{file_of, sizes_of}
use Rattle.board.specs.History.{Call, no_part, part_of}
use Rattle.board.specs.declared.State.{State}
use Rattle.board.proofs.Tests.{Tested}
use Rattle.board.proofs.Effects.{Fills, feeds, finishes, cancels, filled_to}

-- it has no part in a run
pub fills_apart : {shape : Sizes} {fill : Fill} {call : Call} {act : List ℕ → Fed × List ℕ} {writes : Fed → Bool} → Fills shape fill call act writes → part_of call ≡ no_part
fills_apart (feeds chunk) = refl
fills_apart finishes = refl
fills_apart cancels = refl

-- the slot being filled is not slot 0
pub filled_low : (fill : Fill) → is_filling fill ≡ true → 1 ≤ fill.slot
filled_low fill is = let n : (fill.slot ≡ 0 → ⊥) = eqb-false fill.slot 0 (not-true _ is) in omega (arith, n)

-- the slot stays as long as it is
pub act_length : {shape : Sizes} {fill : Fill} {call : Call} {act : List ℕ → Fed × List ℕ} {writes : Fed → Bool} → Fills shape fill call act writes → Sized shape
    → fill_valid shape.bytes shape.rows shape.stride fill ≡ true
    → (raw : List ℕ) → length raw ≡ shape.rows * shape.bytes → length (act raw).1 ≡ shape.rows * shape.bytes
act_length {shape} {fill} (feeds chunk) z valid raw size =
    let kept = long shape.bytes shape.rows shape.stride z.some z.narrow z.within z.small z.low fill valid in
    length-fed shape.bytes shape.rows shape.stride z.some z.narrow z.within z.small fill kept raw size chunk
act_length {shape} {fill} finishes z valid raw size =
    length-finished shape.bytes shape.rows shape.stride z.some z.narrow z.within z.small fill raw size
act_length {shape} {fill} cancels z valid raw size =
    (rows-cancelled shape.bytes shape.rows shape.stride z.some z.narrow z.within z.small).0

-- and the fill valid
pub act_valid : {shape : Sizes} {fill : Fill} {call : Call} {act : List ℕ → Fed × List ℕ} {writes : Fed → Bool} → Fills shape fill call act writes → Sized shape
    → fill_valid shape.bytes shape.rows shape.stride fill ≡ true → is_filling fill ≡ true → (raw : List ℕ)
    → fill_valid shape.bytes shape.rows shape.stride (act raw).0.fill ≡ true
act_valid {shape} {fill} (feeds chunk) z valid is raw =
    valid_kept shape.bytes shape.rows shape.stride z.some z.narrow z.within z.small z.low fill valid (not-true _ is) chunk raw
act_valid {shape} {fill} finishes z valid is raw =
    (valid-ended shape.bytes shape.rows shape.stride z.some z.narrow z.within z.small z.low fill raw).0
act_valid {shape} {fill} cancels z valid is raw =
    (valid-ended shape.bytes shape.rows shape.stride z.some z.narrow z.within z.small z.low fill raw).1

-- of the same slot, or of none
pub act_slot : {shape : Sizes} {fill : Fill} {call : Call} {act : List ℕ → Fed × List ℕ} {writes : Fed → Bool} → Fills shape fill call act writes → Sized shape
    → fill_valid shape.bytes shape.rows shape.stride fill ≡ true → (raw : List ℕ)
    → (P : ℕ → Type 0) → P fill.slot → P 0 → P (act raw).0.fill.slot
unfolding finishing cancelling fill_of
act_slot {shape} {fill} (feeds chunk) z valid raw P same none =
    go (stands b h s z.some z.narrow z.within z.small z.low fill valid)
  where
    b : ℕ
    b = shape.bytes

    h : ℕ
    h = shape.rows

    s : ℕ
    s = shape.stride

    go : Stands b h s z.some z.narrow z.within z.small z.low fill valid → P (feeding b h s fill chunk raw).0.fill.slot
    go (l, are, begins, is, e) =
        let more : Fed = fed 0 (fill_of s fill.slot (l ++ chunk)) in
        let f : (feeding b h s fill chunk raw).0 ≡ cond (begins_good b h s (l ++ chunk)) more (fed 4 empty_fill) =
        ap (λ (x : Fill). (feeding b h s x chunk raw).0) e
        ∙ fill_so_far b h s (omega (arith, z.some, z.within)) (omega (arith, z.small)) fill.slot l begins chunk raw in
        rw f
        (by_test (λ (r : Fed). P r.fill.slot) (begins_good b h s (l ++ chunk)) more (fed 4 empty_fill) (λ _. same) (λ _. none))
act_slot {shape} {fill} finishes z valid raw P same none = go (eqb fill.came (file_length shape.rows shape.stride))
  where
    go : (t : Bool)
        → P (first_of {A = Fed × List ℕ} (case (not t) 4 ∷ []) (ended shape.bytes shape.rows) (fed 0 empty_fill, raw)).0.fill.slot
    go true = none
    go false = none
act_slot {shape} {fill} cancels z valid raw P same none = none

-- where it is known that the bytes were not written, they are as they were
pub act_unwritten : {shape : Sizes} {fill : Fill} {call : Call} {act : List ℕ → Fed × List ℕ} {writes : Fed → Bool}
    → Fills shape fill call act writes → Sized shape → (raw : List ℕ) → writes (act raw).0 ≡ false → (act raw).1 ≡ raw
unfolding feeding finishing
act_unwritten {shape} {fill} (feeds chunk) z raw = go (goes_on b h s fill chunk)
  where
    b : ℕ
    b = shape.bytes

    h : ℕ
    h = shape.rows

    s : ℕ
    s = shape.stride

    after : Fill × List ℕ
    after = bytes_fed b h s (fill, raw) chunk

    go : (t : Bool)
        → chunk_writes s fill (first_of {A = Fed × List ℕ} (case (not t) 4 ∷ []) (ended b h) (fed 0 after.0, after.1)).0 ≡ false
        → (first_of {A = Fed × List ℕ} (case (not t) 4 ∷ []) (ended b h) (fed 0 after.0, after.1)).1 ≡ raw
    go false e = absurd (false≢true (sym e))
    go true e =
        let same = eqb-true _ _ (not-false (eqb (rows_come s after.0.came) (rows_come s fill.came)) e) in
        chunk_unwritten b h s (omega (arith, z.some, z.within)) chunk (fill, raw) same
act_unwritten {shape} {fill} finishes z raw = go (eqb fill.came (file_length shape.rows shape.stride))
  where
    go : (t : Bool)
        → finish_writes (first_of {A = Fed × List ℕ} (case (not t) 4 ∷ []) (ended shape.bytes shape.rows) (fed 0 empty_fill, raw)).0 ≡ false
        → (first_of {A = Fed × List ℕ} (case (not t) 4 ∷ []) (ended shape.bytes shape.rows) (fed 0 empty_fill, raw)).1 ≡ raw
    go true e = refl
    go false e = absurd (false≢true (sym e))
act_unwritten cancels z raw = λ e. absurd (false≢true (sym e))

module _ (state : State) (memory : List ℕ) (t : Tested state (length memory)) where
  abbrev b : ℕ
  b = (sizes_of state).bytes

  abbrev h : ℕ
  h = (sizes_of state).rows

  abbrev slot : ℕ
  slot = state.store.fill.slot

  pub sized : Sized (sizes_of state)
  sized = size_of (panel_of (file_of state)) (good-panel (file_of state) (valid-state t.valid).good)

  -- the slot lies in the memory
  pub filled_inside : slot * (h * b) + h * b ≤ length memory
  filled_inside = slot-fits b h state.store.slots (length memory) t.exact slot (valid-state t.valid).fill_high

  pub filled_length : length (slot_bytes b h memory slot) ≡ h * b
  unfolding slot_bytes
  filled_length = part_length_lem (slot * (h * b)) (h * b) memory filled_inside

  module _ {call : Call} {act : List ℕ → Fed × List ℕ} {writes : Fed → Bool}
      (kind : Fills (sizes_of state) state.store.fill call act writes) where
    abbrev left : List ℕ
    left = (act (slot_bytes b h memory slot)).1

    left_length : length left ≡ h * b
    left_length = act_length kind sized (valid-state t.valid).fill_good (slot_bytes b h memory slot) filled_length

    -- every other slot holds what it held
    pub filled_others : (u : ℕ) → (u ≡ slot → ⊥) → slot_picture b h (filled_to state memory call act writes).memory u ≡ slot_picture b h memory u
    unfolding slot_picture
    filled_others u n = ap (picture_of b h) (bytes_other b h memory slot filled_inside left left_length u n)
