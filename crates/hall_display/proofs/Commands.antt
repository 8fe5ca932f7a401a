-- How header and image are cut into the data of commands.
-- Assumes nothing.
use mathlib.Core.Path.{◌≡◌, sym, ap, ◌∙◌}
use mathlib.Core.List.{List, ◌++◌}
use Prim.Native.Nat.{ℕ, suc, ◌+◌, ◌-◌, ◌*◌, ◌≤◌, ◌<◌, min}
use native.Mathlib.Decide.{dec_le}
use native.Mathlib.Omega.{arith}
use lib.ListN.{length, take, drop, length-append, length-take, length-drop}
use lib.Seq.{take_all, take-length, take-append-add, drop-append-add}
use Rattle.lists.specs.Lists.{overlay_at}
use Rattle.lists.proofs.Parts.{part_next}
use Rattle.hall_commands.specs.Commands.{data_of, command_count}
use Rattle.hall_display.specs.Panels.{header}
use Rattle.hall_display.specs.Upload.{upload_bytes}
use Rattle.hall_display.proofs.Panels.{header-length}

-- what is taken is as many as there are
take_least : (k m : ℕ) (l : List ℕ) → m ≡ min k (length l) → take k l ≡ take m l
take_least k m l e =
    elim (dec_le k (length l)) [
      | yes h ↦ let p : m ≡ k = omega arith in rw p
      | no h ↦
          let q : length l ≤ k = omega arith in
          let p : m ≡ length l = omega arith in
          rw (p, take-length) (take_all k l q)
    ]

-- how many bytes of data a command has, over any bytes
module _ (bytes : List ℕ) (k : ℕ) where
  length_data : length (data_of k bytes) ≡ min 251 (length bytes - 251 * k)
  length_data = rw (length-take, length-drop)

  pub data_most : length (data_of k bytes) ≤ 251
  data_most = omega (arith, length_data)

  -- there is a command of each number below the length over 251, rounded up: each but the last has 251 bytes, and the last has some
  pub data_full : suc k < command_count (length bytes) → length (data_of k bytes) ≡ 251
  data_full h = omega (arith, length_data)

  pub data_some : k < command_count (length bytes) → 1 ≤ length (data_of k bytes)
  data_some h = omega (arith, length_data)

  pub data_none : command_count (length bytes) ≤ k → length (data_of k bytes) ≡ 0
  data_none h = omega (arith, length_data)

-- ---- header and image

module _ (panel depth : ℕ) (image : List ℕ) where
  pub upload_length : length (upload_bytes panel depth image) ≡ 16 + length image
  upload_length = length-append (header panel depth) image ∙ rw (header-length panel depth)

  pub data_length_lem : (number : ℕ) → length (data_of number (upload_bytes panel depth image)) ≡ min 251 (16 + length image - 251 * number)
  data_length_lem number = length_data (upload_bytes panel depth image) number ∙ rw upload_length

  -- the first command's data: the header, and the front of the image
  first_data : (n : ℕ) → n ≡ min 251 (16 + length image) → header panel depth ++ take (n - 16) image ≡ data_of 0 (upload_bytes panel depth image)
  first_data n e =
      let l : length (header panel depth) + 235 ≡ 251 = rw (header-length panel depth) in
      sym (rw l at (take-append-add (header panel depth) image 235)
      ∙ ap (λ (t : List ℕ). header panel depth ++ t) (take_least 235 (n - 16) image (omega arith)))

  -- a later command's data is the image's
  later_data : (number n : ℕ) → n ≡ min 251 (16 + length image - 251 * number) → 0 < number
      → take n (drop (251 * number - 16) image) ≡ data_of number (upload_bytes panel depth image)
  later_data number n e h =
      let at : ℕ = 251 * number - 16 in
      let l : length (header panel depth) + at ≡ 251 * number = rw (header-length panel depth) (omega arith) in
      let d : drop (251 * number) (upload_bytes panel depth image) ≡ drop at image = rw l at (drop-append-add (header panel depth) image at) in
      rw d (sym (take_least 251 n (drop at image) (rw length-drop (omega arith))))

  -- as the code puts them
  pub first_put : (n : ℕ) (out : List ℕ) {head o₁ o₂ : List ℕ} → n ≡ min 251 (16 + length image) → 4 + n ≤ length out
      → head ≡ header panel depth → o₁ ≡ overlay_at 4 head out → o₂ ≡ overlay_at 20 (take (n - 16) image) o₁
      → o₂ ≡ overlay_at 4 (data_of 0 (upload_bytes panel depth image)) out
  first_put n out {head} e h p e₁ e₂ =
      let l : length head ≡ 16 = rw p (header-length panel depth) in
      let q : head ++ take (n - 16) image ≡ data_of 0 (upload_bytes panel depth image) = rw p (first_data n e) in
      rw q at (part_next 4 out head (take (n - 16) image) 20 e₁ e₂ (omega arith) (omega arith))

  pub later_put : (number n : ℕ) (out : List ℕ) {o : List ℕ} → n ≡ min 251 (16 + length image - 251 * number) → 0 < number
      → o ≡ overlay_at 4 (take n (drop (251 * number - 16) image)) out → o ≡ overlay_at 4 (data_of number (upload_bytes panel depth image)) out
  later_put number n out e h p = rw (later_data number n e h) at p
