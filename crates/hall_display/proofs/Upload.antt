-- The header that is made, and the ways out of the call that gives a command.
-- Assumes nothing.
use mathlib.Core.Path.{◌≡◌, refl, sym, ◌∙◌}
use mathlib.Core.Bool.{true, false}
use mathlib.Core.List.{List, [], ◌∷◌}
use Prim.Native.Nat.{ℕ, ◌+◌, ◌-◌, ◌*◌, ◌≤◌, ◌<◌, min}
use native.Mathlib.Omega.{arith}
use borrow.Author.Tests.{eq-eqb, ne_eqb, lt-ltb, le-ltb}
use lib.ListN.{length}
use Rattle.lists.specs.Lists.{overlay, overlay_at}
use Rattle.lists.specs.Rules.{first_of}
use Rattle.lists.proofs.Rules.{None, taken, some_number, none_of}
use Rattle.lists.proofs.Parts.{overlay_two}
use Rattle.hall_commands.specs.Commands.{data_of, command}
use Rattle.hall_display.specs.Panels.{is_display, image_bytes, header}
use Rattle.hall_display.specs.Displays.{panel_code, depth_bits, Shows}
use Rattle.hall_display.specs.declared.Display.{Display}
use Rattle.refusal.specs.declared.Refusal.{Refusal}
use Rattle.refusal.specs.declared.Refusal.TheVariants as refusals
use Rattle.refusal.specs.Numbers.{number_of}
use Rattle.refusal.proofs.Numbers.{number_some}
use Rattle.std.proofs.Common.{Ok, Err}
use Rattle.hall_display.proofs.Panels.{shown}
use Rattle.hall_display.specs.Upload.{Refused, Command, NoMore, make_header, upload_cases, upload_bytes, giving, uploading}
use Rattle.hall_display.proofs.Commands.{data_length_lem}

-- ---- the header

module _ (panel depth : ℕ) where
  pub made_refused : is_display panel depth ≡ false → Err refusals.Display ≡ make_header panel depth
  unfolding make_header
  made_refused bad = rw bad

  pub made_bytes : is_display panel depth ≡ true → make_header panel depth ≡ Ok (header panel depth)
  unfolding make_header
  made_bytes good = rw good

-- ---- the refusals

module _ (panel depth len slot : ℕ) (display : Display) (shows : Shows panel depth display) {n : ℕ}
    (is : n ≡ image_bytes (panel_code display.panel) (depth_bits display.depth)) where
  fits : n ≡ image_bytes panel depth
  fits = rw (shows.panel-is, shows.depth_is) at is

  pub wrong_image : (len ≡ n → ⊥) → 25 ≡ first_of (upload_cases panel depth len slot) (λ n. n) 0
  wrong_image d = rw (shown panel depth display shows, ← fits, ne_eqb len n d)

  pub large_slot : len ≡ n → 255 < slot → 26 ≡ first_of (upload_cases panel depth len slot) (λ n. n) 0
  large_slot e h = rw (shown panel depth display shows, ← fits, eq-eqb len n e, lt-ltb 255 slot h)

  pub no_refusal : len ≡ n → slot ≤ 255 → 0 ≡ first_of (upload_cases panel depth len slot) (λ n. n) 0
  no_refusal e h = rw (shown panel depth display shows, ← fits, eq-eqb len n e, le-ltb 255 slot h)

-- ---- a command

module _ (panel depth : ℕ) (image : List ℕ) (slot number : ℕ) (out : List ℕ) where
  pub upload_refused : (e : Refusal) → number_of e ≡ first_of (upload_cases panel depth (length image) slot) (λ n. n) 0
      → (Refused (number_of e), out) ≡ uploading panel depth image slot number out
  unfolding uploading
  upload_refused e is =
      let some : 0 < number_of e = number_some e in
      some_number (upload_cases panel depth (length image) slot) (λ n. (Refused n, out))
      (giving slot (data_of number (upload_bytes panel depth image)) out) is (λ z. omega arith)

  module _ (is : 0 ≡ first_of (upload_cases panel depth (length image) slot) (λ n. n) 0) where
    free : None (upload_cases panel depth (length image) slot)
    free = none_of (upload_cases panel depth (length image) slot) refl is refl

    given : giving slot (data_of number (upload_bytes panel depth image)) out ≡ uploading panel depth image slot number out
    unfolding uploading
    given =
        sym (taken (upload_cases panel depth (length image) slot) (λ n. (Refused n, out))
        (giving slot (data_of number (upload_bytes panel depth image)) out) free)

    module _ {n : ℕ} (e : n ≡ min 251 (16 + length image - 251 * number)) where
      same : length (data_of number (upload_bytes panel depth image)) ≡ n
      same = data_length_lem panel depth image number ∙ sym e

      pub no_more : n ≡ 0 → (NoMore, out) ≡ uploading panel depth image slot number out
      no_more h = rw (same, eq-eqb n 0 h) at given

      module _ (d : n ≡ 0 → ⊥) where
        pub upload_short : length out < 4 + n → (Refused 11, out) ≡ uploading panel depth image slot number out
        upload_short h = rw (same, ne_eqb n 0 d, lt-ltb (length out) (4 + n) h) at given

        pub upload_given : {o₁ o₂ : List ℕ} → 4 + n ≤ length out → o₁ ≡ overlay_at 0 (0x20 ∷ 0x01 ∷ slot ∷ n ∷ []) out
            → o₂ ≡ overlay_at 4 (data_of number (upload_bytes panel depth image)) o₁
            → (Command (4 + n), o₂) ≡ uploading panel depth image slot number out
        upload_given {o₁} {o₂} h e₁ e₂ =
            let body : List ℕ = data_of number (upload_bytes panel depth image) in
            let q : o₂ ≡ overlay (command slot body) out =
            overlay_two out o₁ o₂ (0x20 ∷ 0x01 ∷ slot ∷ length body ∷ []) body 4 refl (omega arith) (rw same e₁) e₂ in
            let some : length body ≡ 0 → ⊥ = λ h. d (sym same ∙ h) in
            rw (← same, q)
            (rw (ne_eqb (length body) 0 some, le-ltb (length out) (4 + length body) (omega (arith, same))) at given)
