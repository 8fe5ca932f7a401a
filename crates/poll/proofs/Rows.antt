-- Laws of the memory: a row of a slot that is lent as a part of it, and the slot that is copied to slot 0.
-- Assumes nothing.
use mathlib.Core.Path.{◌≡◌, sym, ◌∙◌}
use mathlib.Core.Bool.{Bool, true, false, cond}
use mathlib.Core.List.{List}
use Prim.Native.Nat.{ℕ, ◌+◌, ◌-◌, ◌*◌, ◌≤◌, ◌<◌}
use native.Mathlib.Nat.{add-sub_cancel_left, one-mul, mul-le-mul_right, zero-mul}
use native.Mathlib.Omega.{arith}
use lib.Dec.{leb}
use lib.ListN.{length, take, drop}
use Rattle.lists.specs.Lists.{overlay, overlay_at}
use Rattle.lists.proofs.Parts.{more_rows, part_length_lem}
use Rattle.panel.specs.Dots.{row_dot}
use Rattle.wire.specs.Line.{line_length, handed_line}
use Rattle.wire.proofs.Line.{length-handed}
use Rattle.settings.specs.Settings.{row_bytes_in, rows_in}
use Rattle.picture.specs.Slots.{slot_bytes, with_bytes, slot_picture, picture_row}
use Rattle.picture.specs.Facts.{SlotIn}
use Rattle.picture.proofs.Slots.{row_of_slot}
use Rattle.balance.specs.Sums.{picture_of_stage}
use Rattle.poll.specs.HandOut.{line_bytes, shown_after}
use Rattle.poll.specs.Facts.{Sent}

-- ---- the slot that a stage looks at

-- it is no later than the run's
pub stage-le : (stage slot : ℕ) → picture_of_stage stage 0 slot ≤ slot
unfolding picture_of_stage
stage-le stage slot = go (leb stage 2)
  where
    go : (b : Bool) → cond b 0 slot ≤ slot
    go true = omega arith
    go false = omega arith

-- ---- a row of a slot

-- where a row begins, as the code has it
pub row_at_lem : (file : List ℕ) (row : ℕ) {start t s h b : ℕ} → t ≡ s → h ≡ rows_in file → b ≡ row_bytes_in file → start ≡ t * (h * b) + row * b
    → start ≡ s * (rows_in file * row_bytes_in file) + row * row_bytes_in file
row_at_lem file row et eh eb e = e ∙ rw (et, eh, eb)

-- the row that a stage looks at, lent from index `start` on
module _ (file memory : List ℕ) (slot stage row : ℕ) (room : SlotIn (row_bytes_in file) (rows_in file) (length memory) slot) (l : row < rows_in file)
    (start w : ℕ) (at : start ≡ picture_of_stage stage 0 slot * (rows_in file * row_bytes_in file) + row * row_bytes_in file)
    (wide : w ≡ row_bytes_in file) where
  looked_at : SlotIn (row_bytes_in file) (rows_in file) (length memory) (picture_of_stage stage 0 slot)
  looked_at =
      let size : ℕ = rows_in file * row_bytes_in file in
      let earlier = stage-le stage slot in
      let le : picture_of_stage stage 0 slot * size ≤ slot * size = mul-le-mul_right size earlier in
      record { few = omega (arith, room.few); fits = omega (arith, room.fits) }

  pub row_fits : start + w ≤ length memory
  row_fits = omega (arith, looked_at.fits, more_rows row (rows_in file) (row_bytes_in file) l)

  row_lent : take (start + w - start) (drop start memory)
      ≡ picture_row (row_bytes_in file) (slot_picture (row_bytes_in file) (rows_in file) memory (picture_of_stage stage 0 slot)) row
  row_lent =
      rw (add-sub_cancel_left start w, at, wide)
      (row_of_slot (row_bytes_in file) (rows_in file) memory (picture_of_stage stage 0 slot) row looked_at.fits l)

  row_long : length (take (start + w - start) (drop start memory)) ≡ row_bytes_in file
  row_long = rw (add-sub_cancel_left start w) (part_length_lem start w memory row_fits ∙ wide)

  -- its line went out
  pub line-sent : (h : ℕ) → h ≡ rows_in file → {out : List ℕ} {r : ℕ} {o : List ℕ}
      → (r ≡ line_length (length (take (start + w - start) (drop start memory))) h + 7)
      × (o ≡ overlay (handed_line (length (take (start + w - start) (drop start memory))) h stage row (row_dot (take (start + w - start) (drop start memory)))) out)
      → Sent (line_bytes file memory slot stage row) out r o
  line-sent h e put =
      record {
        many = put.0 ∙ rw (row_long, e) (sym (length-handed (row_bytes_in file) (rows_in file) stage row _));
        whole = put.1 ∙ rw (row_long, row_lent, e);
      }

-- ---- the copy to slot 0

-- a slot of b row bytes and h rows, as the code has them
module _ (file : List ℕ) (slot : ℕ) (memory : List ℕ) (room : SlotIn (row_bytes_in file) (rows_in file) (length memory) slot) (h b : ℕ) (eh : h ≡ rows_in file) (eb : b ≡ row_bytes_in file) where
  pub slot-fits : slot * (h * b) + h * b ≤ length memory
  slot-fits = rw (eh, eb) room.fits

  -- it stands after slot 0
  pub slot_later : 1 ≤ slot → h * b ≤ slot * (h * b)
  slot_later l = rw one-mul at (mul-le-mul_right (h * b) l)

  pub shown_as : {after : List ℕ} → after ≡ overlay_at 0 (take (h * b) (drop (slot * (h * b)) memory)) memory → after ≡ shown_after file memory slot
  unfolding with_bytes slot_bytes
  shown_as p = p ∙ rw (zero-mul, eh, eb)
