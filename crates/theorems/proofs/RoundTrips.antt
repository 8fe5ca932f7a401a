-- Bitmap files through a slot: a file that was uploaded is written in normal form, and what was written, uploaded again to the slot
-- that it came from, leaves the memory as it is. So a second time changes nothing. Uploaded to a slot of any store of the panel, the file
-- carries the picture there.
-- Assumes nothing.
use mathlib.Core.Path.{◌≡◌, refl, sym, ap, ◌∙◌, subst}
use mathlib.Core.Bool.{true, false, not}
use mathlib.Core.List.{List, ◌++◌}
use Prim.Native.Nat.{ℕ, ◌+◌, ◌*◌, ◌≤◌}
use borrow.Author.Tests.{eqb-false, eq-eqb}
use lib.ListN.{length, take}
use Rattle.lists.specs.Lists.{overlay}
use Rattle.lists.proofs.Lists.{take-overlay}
use Rattle.lists.proofs.Rules.{None, none, past, taken, by_cases, none_of, none_parts, none_both}
use Rattle.panel.specs.Facts.{Sized}
use Rattle.panel.specs.Panels.{shape_of, Sizes}
use Rattle.panel.proofs.Panels.{size_of}
use Rattle.settings.specs.Settings.{panel_of, row_bytes_in, rows_in, stride_in}
use Rattle.settings.proofs.Accepted.{good-panel}
use Rattle.picture.specs.Slots.{slot_picture, with_picture}
use Rattle.picture.proofs.Pictures.{Bytes}
use Rattle.picture.proofs.Slots.{Rows, slot-fits, rows-slot, with_own_picture, length_with_picture, picture_same, others_kept}
use Rattle.bitmap.specs.Header.{file_length}
use Rattle.bitmap.specs.Bitmap.{bitmap_good}
use Rattle.bitmap_codec.specs.Codec.{read_picture, written_file, normal_form}
use Rattle.bitmap_codec.proofs.RoundTrip.{length_file, rows_read, read_written, write_read, read_normal, good_written}
use Rattle.slots.specs.Slots.{bitmap_cases, bitmap_drawn, bitmap_written}
use Rattle.store.specs.Conditions.{is_runs_slot}
use Rattle.store.specs.Refusals.{is_filled, upload_own, write_own}
use Rattle.store.proofs.Conditions.{valid-state}
use Rattle.store.proofs.Cases.{Uploadable, uploadable, upload_free, Writable, writable, write_free}
use Rattle.board.specs.State.{file_of, sizes_of, state_valid, store_cases}
use Rattle.board.specs.Calls.{reply, counted, upload_cases, drawn_to, bitmap_upload, write_cases, bitmap_write}
use Rattle.board.specs.History.{upload_bitmap}
use Rattle.board.specs.declared.State.{State}
use Rattle.board.specs.declared.Reply.{Reply}
use Rattle.theorems.specs.Copies.{file_left, Carried, FileCarries}
use Rattle.board.proofs.Tests.{Tested, tested, store_free}
use Rattle.theorems.proofs.Kept.{valid_kept}

module _ (state : State) where
  abbrev b : ℕ
  b = (sizes_of state).bytes

  abbrev h : ℕ
  h = (sizes_of state).rows

  abbrev s : ℕ
  s = (sizes_of state).stride

  module _ (memory : List ℕ) (slot : ℕ) where
    -- ---- the two calls where nothing refuses them

    writes : (out : List ℕ) → Tested state (length memory) → Writable state.store (sizes_of state) slot (length out)
        → bitmap_write state memory slot out ≡ (reply 0 state, bitmap_written (sizes_of state) memory slot out)
    unfolding bitmap_write
    writes out t may =
        taken (write_cases state (length memory) slot (length out)) (λ number. (reply number state, out))
        (reply 0 state, bitmap_written (sizes_of state) memory slot out)
        (none_both (store_free state (length memory) t) (write_free state.store (sizes_of state) slot (length out) may))

    pub uploads : (file : List ℕ) → Tested state (length memory) → Uploadable state.store slot → bitmap_good b h s file ≡ true
        → bitmap_upload state memory slot file ≡ drawn_to state slot (bitmap_drawn (sizes_of state) memory slot file)
    unfolding bitmap_upload
    uploads file t may good =
        taken (upload_cases state (length memory) slot ++ bitmap_cases (sizes_of state) file) (λ number. (reply number state, memory))
        (drawn_to state slot (bitmap_drawn (sizes_of state) memory slot file))
        (none_both (none_both (store_free state (length memory) t) (upload_free state.store slot may)) (past (ap not good) none))

    -- what holds of an accepted bitmap upload
    accepted_upload : (file : List ℕ) (P : Reply × List ℕ → Type 0)
        → (Tested state (length memory) → Uploadable state.store slot → P (drawn_to state slot (bitmap_drawn (sizes_of state) memory slot file)))
        → (bitmap_upload state memory slot file).0.number ≡ 0 → P (bitmap_upload state memory slot file)
    unfolding bitmap_upload
    accepted_upload file P then =
        by_cases (λ (r : Reply × List ℕ). r.0.number ≡ 0 → P r)
        (upload_cases state (length memory) slot ++ bitmap_cases (sizes_of state) file) (λ number. (reply number state, memory))
        (drawn_to state slot (bitmap_drawn (sizes_of state) memory slot file)) refl
        (λ number e z. absurd (eqb-false number 0 e z))
        (λ free z.
        let upload = (none_parts (upload_cases state (length memory) slot) (bitmap_cases (sizes_of state) file) free).0 in
        let parts = none_parts (store_cases state (length memory)) (upload_own state.store slot) upload in
        then (tested state (length memory) parts.0) (uploadable state.store slot parts.1))

    size : Tested state (length memory) → Sized (sizes_of state)
    size t = size_of (panel_of (file_of state)) (good-panel (file_of state) (valid-state t.valid).good)

    fits : Tested state (length memory) → slot ≤ state.store.slots → slot * (h * b) + h * b ≤ length memory
    fits t le = slot-fits b h state.store.slots (length memory) t.exact slot le

  -- ---- the round trips

  module _ (memory : List ℕ) (slot : ℕ) where
    -- what the writer made of a slot that takes uploads, uploaded again to that slot: the memory stays, and a fresh count of it is kept
    pub write_upload : (out : List ℕ) → Bytes memory → (bitmap_write state memory slot out).0.number ≡ 0
        → 1 ≤ slot → is_runs_slot state.store.phase slot ≡ false → is_filled state.store.fill slot ≡ false
        → bitmap_upload state memory slot
        (take (file_length (rows_in (file_of state)) (stride_in (file_of state))) (bitmap_write state memory slot out).1)
        ≡ (reply 0 (counted (sizes_of state) state memory slot), memory)
    unfolding bitmap_write
    write_upload out bytes accepted low free unfilled =
        by_cases
        (λ (r : Reply × List ℕ). r.0.number ≡ 0 → bitmap_upload state memory slot (take (file_length h s) r.1) ≡ drawn_to state slot memory)
        (write_cases state (length memory) slot (length out)) (λ number. (reply number state, out))
        (reply 0 state, bitmap_written (sizes_of state) memory slot out) refl
        (λ number e z. absurd (eqb-false number 0 e z)) written accepted
      where
        picture : List ℕ
        picture = slot_picture b h memory slot

        file : List ℕ
        file = written_file b h s picture

        written : None (write_cases state (length memory) slot (length out)) → ◌≡◌ {A = ℕ} 0 0
            → bitmap_upload state memory slot (take (file_length h s) (overlay file out)) ≡ drawn_to state slot memory
        written all y =
            let parts = none_parts (store_cases state (length memory)) (write_own state.store (sizes_of state) slot (length out)) all in
            let t = tested state (length memory) parts.0 in
            let high = (writable state.store (sizes_of state) slot (length out) parts.1).high in
            let z = size memory slot t in
            let inside = fits memory slot t high in
            let good = good_written b h s z.narrow z.low z.small picture in
            let is : take (file_length h s) (overlay file out) ≡ file = rw (← length_file b h s picture) (take-overlay file out) in
            let long : length picture ≡ h * b = (rows-slot b h memory slot inside z.some bytes).0 in
            ap (bitmap_upload state memory slot) is
            ∙ uploads memory slot file t (record { takes = record { low = low; high = high }; not_runs = free; not_filled = unfilled }) good
            ∙ rw (read_written b h s z.some z.within picture long, with_own_picture b h memory slot inside z.some bytes)

    -- the normal form of an accepted file does the same as the file
    pub upload_normal : (file : List ℕ) → (bitmap_upload state memory slot file).0.number ≡ 0
        → bitmap_upload state memory slot (normal_form (row_bytes_in (file_of state)) (rows_in (file_of state)) (stride_in (file_of state)) file)
        ≡ bitmap_upload state memory slot file
    upload_normal file =
        accepted_upload memory slot file (λ r. bitmap_upload state memory slot (normal_form b h s file) ≡ r)
        (λ t may.
        let z = size memory slot t in
        let form = write_read b h s z.some z.within file in
        let good : bitmap_good b h s (normal_form b h s file) ≡ true =
        rw (← form) (good_written b h s z.narrow z.low z.small (read_picture b h s file)) in
        uploads memory slot (normal_form b h s file) t may good ∙ rw (read_normal b h s z.some z.within file))

module _ (state : State) (memory : List ℕ) (slot : ℕ) where
  -- an accepted bitmap upload, and then the writer: the file's normal form
  pub upload_write : (file out : List ℕ) → Bytes file → (bitmap_upload state memory slot file).0.number ≡ 0
      → file_length (rows_in (file_of state)) (stride_in (file_of state)) ≤ length out
      → bitmap_write (bitmap_upload state memory slot file).0.state (bitmap_upload state memory slot file).1 slot out
      ≡ (
        reply 0 (bitmap_upload state memory slot file).0.state,
        overlay (normal_form (row_bytes_in (file_of state)) (rows_in (file_of state)) (stride_in (file_of state)) file) out,
      )
  upload_write file out bytes accepted room =
      accepted_upload state memory slot file
      (λ r.
      state_valid r.0.state ≡ true
      → bitmap_write r.0.state r.1 slot out ≡ (reply 0 r.0.state, overlay (normal_form (b state) (h state) (s state) file) out))
      stored accepted (valid_kept state memory (upload_bitmap slot file) (eq-eqb _ 0 accepted))
    where
      picture : List ℕ
      picture = read_picture (b state) (h state) (s state) file

      after : List ℕ
      after = with_picture (b state) (h state) memory slot picture

      stored : Tested state (length memory) → Uploadable state.store slot → state_valid (counted (sizes_of state) state after slot) ≡ true
          → bitmap_write (counted (sizes_of state) state after slot) after slot out
          ≡ (reply 0 (counted (sizes_of state) state after slot), overlay (normal_form (b state) (h state) (s state) file) out)
      stored t may valid =
          let z = size state memory slot t in
          let inside = fits state memory slot t may.takes.high in
          let rows : Rows (b state) (h state) picture = rows_read (b state) (h state) (s state) file bytes in
          let same : length after ≡ length memory = length_with_picture (b state) (h state) memory slot inside z.some picture rows in
          writes (counted (sizes_of state) state after slot) after slot out (record { valid = valid; exact = same ∙ t.exact })
          (record { high = may.takes.high; room = room })
          ∙ ap
          (λ (file : List ℕ). (reply 0 (counted (sizes_of state) state after slot), overlay file out))
          (ap (written_file (b state) (h state) (s state)) (picture_same (b state) (h state) memory slot inside z.some picture rows)
          ∙ write_read (b state) (h state) (s state) z.some z.within file)

-- ---- a written file, uploaded to a slot of any store of the panel

module _ (memory : List ℕ) (source : ℕ) (out : List ℕ) where
  -- the picture and the file of the slot that is written, on a panel of these sizes
  abbrev picture_on : Sizes → List ℕ
  picture_on z = slot_picture z.bytes z.rows memory source

  abbrev file_on : Sizes → List ℕ
  file_on z = written_file z.bytes z.rows z.stride (picture_on z)

  -- the file is accepted and reads back as the picture, and the output has it
  record Made (z : Sizes) : Type 0 where
    pub rows : Rows z.bytes z.rows (picture_on z)
    pub good : bitmap_good z.bytes z.rows z.stride (file_on z) ≡ true
    pub read : read_picture z.bytes z.rows z.stride (file_on z) ≡ picture_on z
    pub left : file_left z (bitmap_written z memory source out) ≡ file_on z

  written_file_lem : (state : State) → Bytes memory → None (write_cases state (length memory) source (length out)) → Made (sizes_of state)
  written_file_lem state bytes all =
      let parts = none_parts (store_cases state (length memory)) (write_own state.store (sizes_of state) source (length out)) all in
      let t = tested state (length memory) parts.0 in
      let high = (writable state.store (sizes_of state) source (length out) parts.1).high in
      let z = size state memory source t in
      let picture = picture_on (sizes_of state) in
      let slot = rows-slot (b state) (h state) memory source (fits state memory source t high) z.some bytes in
      record {
        rows = slot;
        good = good_written (b state) (h state) (s state) z.narrow z.low z.small picture;
        read = read_written (b state) (h state) (s state) z.some z.within picture slot.0;
        left = rw (← length_file (b state) (h state) (s state) picture) (take-overlay (file_on (sizes_of state)) out);
      }

  carried : (other : State) (before : List ℕ) (slot : ℕ) → None (upload_cases other (length before) slot) → Made (sizes_of other)
      → Carried (sizes_of other) memory source other before slot (bitmap_upload other before slot (file_on (sizes_of other)))
  carried other before slot free file =
      let parts = none_parts (store_cases other (length before)) (upload_own other.store slot) free in
      let t = tested other (length before) parts.0 in
      let may = uploadable other.store slot parts.1 in
      let z = size other before slot t in
      let inside = fits other before slot t may.takes.high in
      let left = uploads other before slot (file_on (sizes_of other)) t may file.good in
      record {
        accepted = rw left;
        holds = rw (left, file.read) (picture_same (b other) (h other) before slot inside z.some (picture_on (sizes_of other)) file.rows);
        others =
            λ u d.
            rw (left, file.read)
            (others_kept (b other) (h other) other.store.slots before t.exact slot may.takes.high (picture_on (sizes_of other))
            file.rows.0 u d);
      }

pub file_carries : FileCarries
unfolding bitmap_write
file_carries state memory source out bytes accepted other before slot same-panel free =
    by_cases
    (λ (r : Reply × List ℕ).
    r.0.number ≡ 0
    → Carried (sizes_of state) memory source other before slot (bitmap_upload other before slot (file_left (sizes_of state) r.1)))
    (write_cases state (length memory) source (length out)) (λ number. (reply number state, out))
    (reply 0 state, bitmap_written (sizes_of state) memory source out) refl
    (λ number e z. absurd (eqb-false number 0 e z))
    (λ all y.
    let sizes : sizes_of state ≡ sizes_of other = ap shape_of (sym same-panel) in
    let file = subst (Made memory source out) sizes (written_file_lem memory source out state bytes all) in
    let takes = none_of (upload_cases other (length before) slot) refl {r = 0} (sym free) refl in
    let there = carried memory source out other before slot takes file in
    let put : Carried (sizes_of other) memory source other before slot
    (bitmap_upload other before slot (file_left (sizes_of other) (bitmap_written (sizes_of other) memory source out))) =
    rw file.left there in
    subst
    (λ (z : Sizes). Carried z memory source other before slot (bitmap_upload other before slot (file_left z (bitmap_written z memory source out))))
    (sym sizes) put)
    accepted
