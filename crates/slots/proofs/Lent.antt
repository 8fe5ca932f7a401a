-- Slots that are lent as parts of the memory: what fits, and what is left when they come back.
-- Assumes nothing.
use mathlib.Core.Path.{◌≡◌, ap, ◌∙◌}
use mathlib.Core.List.{List, ◌++◌}
use Prim.Native.Nat.{ℕ, ◌+◌, ◌-◌, ◌*◌, ◌≤◌}
use native.Mathlib.Nat.{mul-le-mul, add-sub_cancel_left}
use native.Mathlib.Omega.{arith}
use mir.Syntax.{w64}
use mir.Val.{Fits}
use lib.ListN.{length, take, drop}
use Rattle.lists.specs.Lists.{overlay}
use Rattle.lists.proofs.Parts.{part_length_lem}
use Rattle.panel.specs.Panels.{Sizes}
use Rattle.picture.specs.Slots.{picture_of, raw_of, slot_bytes, with_bytes}
use Rattle.picture.specs.Facts.{SlotIn}
use Rattle.picture.proofs.Slots.{lent_picture, lent_back}
use Rattle.bitmap_codec.specs.Codec.{read_picture, written_file}
use Rattle.bitmap_codec.proofs.RoundTrip.{length_read}
use Rattle.fill_calls.specs.declared.Fed.{Fed}
use Rattle.slots.specs.Slots.{bitmap_drawn, bitmap_written, on_slot}

-- ---- the lent part, from where the slot begins to its end

module _ (shape : Sizes) (memory : List ℕ) (slot : ℕ) {start end : ℕ} (at : start ≡ slot * (shape.rows * shape.bytes))
    (to : end ≡ start + shape.rows * shape.bytes) where
  abbrev size : ℕ
  size = shape.rows * shape.bytes

  abbrev lent : List ℕ
  lent = take (end - start) (drop start memory)

  -- the memory when the part comes back
  abbrev left : (part : List ℕ) → List ℕ
  left part = take start memory ++ (part ++ drop (end - start) (drop start memory))

  slot-ends : SlotIn shape.bytes shape.rows (length memory) slot → start + size ≤ length memory
  slot-ends s = rw at s.fits

  -- the bytes that the reader left in it are the slot's picture
  pub slot_read : (file : List ℕ) {part : List ℕ}
      → part ≡ raw_of shape.bytes shape.rows (read_picture shape.bytes shape.rows shape.stride file)
      → left part ≡ bitmap_drawn shape memory slot file
  slot_read file {part} e =
      let picture = read_picture shape.bytes shape.rows shape.stride file in
      rw (to, at)
      (lent_back shape.bytes shape.rows memory slot picture part (length_read shape.bytes shape.rows shape.stride file) e)

  -- a file that is written of it is the one of the slot's picture
  pub slot_written : (out : List ℕ) {after : List ℕ}
      → after
      ≡ overlay (written_file shape.bytes shape.rows shape.stride (picture_of shape.bytes shape.rows lent)) out
      → after ≡ bitmap_written shape memory slot out
  slot_written out e =
      e
      ∙ ap (λ (picture : List ℕ). overlay (written_file shape.bytes shape.rows shape.stride picture) out)
      (rw (to, at) (lent_picture shape.bytes shape.rows memory slot))

  -- what is done to it, and leaves as many bytes, is done to the slot
  pub slot_acted : SlotIn shape.bytes shape.rows (length memory) slot → (act : List ℕ → Fed × List ℕ)
      → ((raw : List ℕ) → length raw ≡ size → length (act raw).1 ≡ size)
      → {fed : Fed} {part : List ℕ} → (fed, part) ≡ act lent
      → ◌≡◌ {A = Fed × List ℕ} (fed, left part) (on_slot shape memory slot act)
  unfolding slot_bytes with_bytes
  slot_acted lies act keeps {fed} {part} e =
      let rest : List ℕ = drop start memory in
      let is : ◌≡◌ {A = Fed × List ℕ} (fed, part) (act (take size rest)) = rw (to, add-sub_cancel_left start size) at e in
      let long : length part ≡ size =
      ap (λ (r : Fed × List ℕ). length r.1) is ∙ keeps (take size rest) (part_length_lem start size memory (slot-ends lies)) in
      let cut : ◌≡◌ {A = Fed × List ℕ} (fed, left part) (fed, take start memory ++ (part ++ drop (length part) rest)) =
      rw (to, add-sub_cancel_left start size, long) in
      cut
      ∙ ap (λ (r : Fed × List ℕ). (r.0, take start memory ++ (r.1 ++ drop (length r.1) rest))) is
      ∙ rw at
