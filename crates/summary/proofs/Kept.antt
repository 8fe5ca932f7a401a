-- Laws for the store: at the place of every slot stands a fresh count, from an opening on, and every call keeps it so.
-- Assumes nothing.
use mathlib.Core.Path.{◌≡◌, refl, sym, ap, ◌∙◌}
use mathlib.Core.Bool.{true}
use mathlib.Core.List.{List}
use Prim.Native.Nat.{ℕ, suc, ◌+◌, ◌*◌, ◌/◌, ◌%◌, ◌≤◌, ◌<◌}
use native.Mathlib.Decide.{ℕ_discrete}
use native.Mathlib.Omega.{arith}
use lib.Arith.{digits_lt}
use lib.ListN.{length, get_or, set, take, drop, replicate, length-set, length-replicate, get_or-replicate}
use lib.Seq.{get_or-set_same, get_or-set_other, get_or-take, get_or-drop, ext_get_or}
use Rattle.lists.proofs.Cases.{none, more, each}
use Rattle.lists.proofs.Parts.{part_length_lem}
use Rattle.panel.specs.Dots.{bit, dot}
use Rattle.counting.proofs.Below.{all_each}
use Rattle.picture.specs.Slots.{picture_of, slot_bytes, with_bytes, slot_picture, with_picture}
use Rattle.picture.proofs.Slots.{blank_picture, bytes_same, bytes_other, slot-fits, others_kept, copied}
use Rattle.summary.specs.Summaries.{summary_of, empty_summary, SummariesFresh}
use Rattle.summary.specs.Conditions.{summaries_good}
use Rattle.summary.specs.declared.Summary.{Summary}
use Rattle.summary.proofs.Summaries.{white_blank}
use Rattle.summary.proofs.Conditions.{fresh-good, good_at}

-- ---- white slots

bit_white : (j : ℕ) → j < 8 → bit 0xFF j ≡ 1
bit_white =
    each (λ j. bit 0xFF j ≡ 1) 8
    (more (more (more (more (more (more (more (more none refl) refl) refl) refl) refl) refl) refl) refl)

-- every dot of a picture of bytes FF is white
pub blank_dot : (b h x y : ℕ) → x < 8 * b → y < h → dot b (replicate (h * b) 0xFF) x y ≡ 1
unfolding dot
blank_dot b h x y fx fy =
    let in_row : x / 8 < b = omega arith in
    rw (get_or-replicate {A = ℕ} (h * b) (y * b + x / 8) 0xFF 0 (digits_lt fy in_row)) (bit_white (x % 8) (omega arith))

-- each slot of a memory of bytes FF holds such a picture
pub blank_slot : (b h l slot : ℕ) → slot * (h * b) + h * b ≤ l → slot_picture b h (replicate l 0xFF) slot ≡ replicate (h * b) 0xFF
unfolding slot_picture slot_bytes
blank_slot b h l slot fits =
    let memory : List ℕ = replicate l 0xFF in
    let bytes : List ℕ = take (h * b) (drop (slot * (h * b)) memory) in
    let size : length memory ≡ l = length-replicate {A = ℕ} l 0xFF in
    let long : length bytes ≡ h * b = part_length_lem (slot * (h * b)) (h * b) memory (omega arith) in
    ap (picture_of b h)
    (ext_get_or 0 bytes (replicate (h * b) 0xFF) (long ∙ sym (length-replicate {A = ℕ} (h * b) 0xFF))
    (λ k low.
    let in-slot : k < h * b = omega (arith, low, long) in
    get_or-take (h * b) (drop (slot * (h * b)) memory) k 0 in-slot
    ∙ get_or-drop (slot * (h * b)) memory k 0
    ∙ get_or-replicate {A = ℕ} l (slot * (h * b) + k) 0xFF 0 (omega arith)
    ∙ sym (get_or-replicate {A = ℕ} (h * b) k 0xFF 0 in-slot)))
    ∙ blank_picture b h

-- and the summary of that is the empty one
blank_summary : (b h : ℕ) → empty_summary ≡ summary_of b h (replicate (h * b) 0xFF)
blank_summary b h = white_blank b h (replicate (h * b) 0xFF) (blank_dot b h)

-- as bytes too
pub white_summary : (b h : ℕ) → summary_of b h (picture_of b h (replicate (h * b) 0xFF)) ≡ empty_summary
white_summary b h = ap (summary_of b h) (blank_picture b h) ∙ sym (blank_summary b h)

-- ---- pictures of the slots, by their bytes

-- slots with the same bytes hold the same picture
same_picture : (b h : ℕ) (memory : List ℕ) (slot : ℕ) (memory' : List ℕ) (slot' : ℕ)
    → slot_bytes b h memory slot ≡ slot_bytes b h memory' slot' → slot_picture b h memory slot ≡ slot_picture b h memory' slot'
unfolding slot_picture
same_picture b h memory slot memory' slot' e = ap (picture_of b h) e

length_bytes : (b h : ℕ) (memory : List ℕ) (slot : ℕ) → slot * (h * b) + h * b ≤ length memory
    → length (slot_bytes b h memory slot) ≡ h * b
unfolding slot_bytes
length_bytes b h memory slot fits = part_length_lem (slot * (h * b)) (h * b) memory fits

-- ---- fresh counts

module _ (b h n : ℕ) where
  -- an opening leaves them
  pub fresh_opened : (l : ℕ) → l ≡ (n + 1) * (h * b) → n ≤ 7 → SummariesFresh b h (replicate l 0xFF) n (replicate 8 empty_summary)
  fresh_opened l exact few = record {
    places = length-replicate 8 empty_summary;
    fresh = λ slot le.
        get_or-replicate 8 slot empty_summary empty_summary (omega arith)
        ∙ blank_summary b h
        ∙ ap (summary_of b h) (sym (blank_slot b h l slot (slot-fits b h n l exact slot le)));
  }

  module _ (few : n ≤ 7) (memory : List ℕ) (summaries : List Summary) (kept : SummariesFresh b h memory n summaries) where
    -- a call that writes one slot, and leaves a fresh count of it, keeps them
    pub fresh_written : (memory' : List ℕ) (slot : ℕ) → slot ≤ n
        → ((t : ℕ) → (t ≡ slot → ⊥) → slot_picture b h memory' t ≡ slot_picture b h memory t)
        → SummariesFresh b h memory' n (set summaries slot (summary_of b h (slot_picture b h memory' slot)))
    fresh_written memory' slot le others =
        let count = summary_of b h (slot_picture b h memory' slot) in
        let places : length summaries ≡ 8 = kept.places in
        record {
          places = length-set summaries slot count ∙ places;
          fresh = λ t q.
              elim (ℕ_discrete t slot) [
                | yes e ↦ rw e (get_or-set_same summaries slot count empty_summary (omega arith))
                | no d ↦
                    get_or-set_other summaries slot t count empty_summary d ∙ kept.fresh t q ∙ ap (summary_of b h) (sym (others t d))
              ];
        }

    module _ (exact : length memory ≡ (n + 1) * (h * b)) (slot : ℕ) (le : slot ≤ n) where
      -- so it is where a picture or bytes are put into a slot
      pub fresh_drawn : (picture : List ℕ) → length picture ≡ h * b
          → SummariesFresh b h (with_picture b h memory slot picture) n
          (set summaries slot (summary_of b h (slot_picture b h (with_picture b h memory slot picture) slot)))
      fresh_drawn picture e = fresh_written (with_picture b h memory slot picture) slot le (others_kept b h n memory exact slot le picture e)

      other_bytes : (to : ℕ) → to ≤ n → (raw : List ℕ) → length raw ≡ h * b → (t : ℕ) → (t ≡ to → ⊥)
          → slot_picture b h (with_bytes b h memory to raw) t ≡ slot_picture b h memory t
      other_bytes to low raw e t d =
          same_picture b h (with_bytes b h memory to raw) t memory t
          (bytes_other b h memory to (slot-fits b h n (length memory) exact to low) raw e t d)

      pub fresh-put : (raw : List ℕ) → length raw ≡ h * b
          → SummariesFresh b h (with_bytes b h memory slot raw) n (set summaries slot (summary_of b h (picture_of b h raw)))
      unfolding slot_picture
      fresh-put raw e =
          let memory' : List ℕ = with_bytes b h memory slot raw in
          let own : slot_picture b h memory' slot ≡ picture_of b h raw =
          ap (picture_of b h) (bytes_same b h memory slot (slot-fits b h n (length memory) exact slot le) raw e) in
          let count : summary_of b h (slot_picture b h memory' slot) ≡ summary_of b h (picture_of b h raw) = ap (summary_of b h) own in
          rw count at (fresh_written memory' slot le (other_bytes slot le raw e))

      -- a slot that is made white has the empty summary
      pub fresh_whitened : SummariesFresh b h (with_bytes b h memory slot (replicate (h * b) 0xFF)) n (set summaries slot empty_summary)
      fresh_whitened =
          let white : List ℕ = replicate (h * b) 0xFF in
          rw (white_summary b h) at (fresh-put white (length-replicate {A = ℕ} (h * b) 0xFF))

      -- done copies a slot to slot 0, and its summary to place 0
      pub fresh_copied : SummariesFresh b h (with_bytes b h memory 0 (slot_bytes b h memory slot)) n
          (set summaries 0 (get_or summaries slot empty_summary))
      fresh_copied =
          let raw : List ℕ = slot_bytes b h memory slot in
          let memory' : List ℕ = with_bytes b h memory 0 raw in
          let long : length raw ≡ h * b = length_bytes b h memory slot (slot-fits b h n (length memory) exact slot le) in
          let count : summary_of b h (slot_picture b h memory' 0) ≡ get_or summaries slot empty_summary =
          ap (summary_of b h) (copied b h n memory exact slot le) ∙ sym (kept.fresh slot le) in
          rw count at (fresh_written memory' 0 (omega arith) (other_bytes 0 (omega arith) raw long))

  -- they are free of 13
  pub fresh-valid : (memory : List ℕ) (summaries : List Summary) → SummariesFresh b h memory n summaries
      → summaries_good b h n summaries ≡ true
  unfolding summaries_good
  fresh-valid memory summaries kept =
      all_each (suc n) (good_at b h summaries)
      (λ slot l. rw (kept.fresh slot (omega arith)) (fresh-good b h (slot_picture b h memory slot)))
