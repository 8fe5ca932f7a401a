-- A whole upload: its commands hold header and image, and reading them brings these back.
-- Assumes nothing.
use mathlib.Core.Path.{◌≡◌, refl, sym, ap, ◌∙◌}
use mathlib.Core.Bool.{true}
use mathlib.Core.List.{List}
use Prim.Native.Nat.{ℕ, zero, suc, ◌+◌, ◌*◌, ◌≤◌, ◌<◌}
use native.Mathlib.Nat.{zero-add}
use native.Mathlib.Omega.{arith}
use borrow.Author.Tests.{eq-eqb, ne_eqb, le-ltb}
use lib.ListN.{length, take}
use lib.Seq.{take_all, take-add, take_at}
use Rattle.lists.specs.Lists.{overlay}
use Rattle.hall_commands.specs.Commands.{data_of, command, data_in, command_count}
use Rattle.hall_commands.specs.Reading.{reader_at, reply}
use Rattle.hall_commands.specs.Order.{joined, read_in_order}
use Rattle.hall_commands.proofs.Order.{joined_cong, read_cong, read_joined}
use Rattle.hall_display.specs.Panels.{is_display, image_bytes}
use Rattle.hall_display.specs.Upload.{Answer, Command, NoMore, put_out, upload_bytes, giving, uploading}
use Rattle.hall_display.specs.Order.{image_commands, Uploaded}
use Rattle.hall_display.proofs.Commands.{upload_length, data_full, data_some, data_none, data_most}

-- ---- bytes cut into data, over any bytes

module _ (bytes : List ℕ) where
  -- as many bytes as the commands so far hold
  data_front : (n : ℕ) → joined n (λ k. data_of k bytes) ≡ take (251 * n) bytes
  data_front zero = refl
  data_front (suc n) =
      let e : 251 * suc n ≡ 251 * n + 251 = omega arith in
      rw (data_front n, e) (sym (take-add (251 * n) 251 bytes))

  -- all of them
  pub data_joined : joined (command_count (length bytes)) (λ k. data_of k bytes) ≡ bytes
  data_joined = data_front (command_count (length bytes)) ∙ take_all (251 * command_count (length bytes)) bytes (omega arith)

-- ---- the upload of an image

module _ (panel depth : ℕ) (image : List ℕ) (slot : ℕ) (good : is_display panel depth ≡ true)
    (exact : length image ≡ image_bytes panel depth) (small : slot ≤ 255) where
  total : length (upload_bytes panel depth image) ≡ 16 + length image
  total = upload_length panel depth image

  accepted : (number : ℕ) (out : List ℕ)
      → uploading panel depth image slot number out ≡ giving slot (data_of number (upload_bytes panel depth image)) out
  unfolding uploading
  accepted number out = rw (good, eq-eqb (length image) (image_bytes panel depth) exact, le-ltb 255 slot small)

  -- what a call gives
  calls_give : (number : ℕ) (out : List ℕ) → number < image_commands image → 255 ≤ length out
      → uploading panel depth image slot number out
      ≡ (
        Command (4 + length (data_of number (upload_bytes panel depth image))),
        overlay (command slot (data_of number (upload_bytes panel depth image))) out,
      )
  calls_give number out h room =
      let bytes : List ℕ = upload_bytes panel depth image in
      let l : 1 ≤ length (data_of number bytes) = data_some bytes number (rw total h) in
      let m : length (data_of number bytes) ≤ 251 = data_most bytes number in
      let some : length (data_of number bytes) ≡ 0 → ⊥ = λ e. omega arith in
      accepted number out
      ∙ rw (ne_eqb (length (data_of number bytes)) 0 some, le-ltb (length out) (4 + length (data_of number bytes)) (omega arith))

  calls_end : (number : ℕ) (out : List ℕ) → image_commands image ≤ number → uploading panel depth image slot number out ≡ (NoMore, out)
  calls_end number out h =
      let bytes : List ℕ = upload_bytes panel depth image in
      let none : length (data_of number bytes) ≡ 0 = data_none bytes number (rw total h) in
      accepted number out ∙ rw (eq-eqb (length (data_of number bytes)) 0 none)

  -- calls that keep the contract, each with 255 bytes or more lent, to the last command or past it
  module _ (last : ℕ) (enough : image_commands image ≤ last) (out : ℕ → List ℕ) (room : (k : ℕ) → k ≤ last → 255 ≤ length (out k))
      (answer : ℕ → Answer) (after : ℕ → List ℕ)
      (called : (k : ℕ) → k ≤ last → (answer k, after k) ≡ uploading panel depth image slot k (out k)) where
    body : ℕ → List ℕ
    body k = data_of k (upload_bytes panel depth image)

    gave : (k : ℕ) → k < image_commands image
        → ◌≡◌ {A = Answer × List ℕ} (answer k, after k) (Command (4 + length (body k)), overlay (command slot (body k)) (out k))
    unfolding body
    gave k h = let l : k ≤ last = omega arith in called k l ∙ calls_give k (out k) h (room k l)

    given : (k : ℕ) → k < image_commands image → put_out (answer k) (after k) ≡ command slot (body k)
    given k h =
        ap (λ (c : Answer × List ℕ). put_out c.0 c.1) (gave k h)
        ∙ take_at (command slot (body k)) _ (4 + length (body k)) (omega arith)

    in_data : (k : ℕ) → k < image_commands image → data_in (put_out (answer k) (after k)) ≡ body k
    in_data k h = ap data_in (given k h)

    all_joined : joined (image_commands image) body ≡ upload_bytes panel depth image
    unfolding body
    all_joined = rw total at (data_joined (upload_bytes panel depth image))

    read_back : (memory : List ℕ) → 16 + length image ≤ length memory
        → read_in_order (image_commands image) (λ k. put_out (answer k) (after k)) (reader_at slot 0) memory
        ≡ (reply 0 (reader_at slot (16 + length image)), overlay (upload_bytes panel depth image) memory)
    unfolding body
    read_back memory fits =
        let bytes : List ℕ = upload_bytes panel depth image in
        let n : ℕ = image_commands image in
        let l : length (joined n body) ≡ 16 + length image = ap length all_joined ∙ total in
        read_cong n _ (λ k. command slot (body k)) (reader_at slot 0) memory given
        ∙ read_joined slot small n body 0 memory (λ k h. data_some bytes k (rw total h)) (λ k h. data_most bytes k) (omega (arith, l))
        ∙ rw (all_joined, zero-add) (ap (λ (at : ℕ). (reply 0 (reader_at slot at), overlay bytes memory)) total)

    pub uploaded : Uploaded panel depth image slot last out answer after
    unfolding body
    uploaded =
        let bytes : List ℕ = upload_bytes panel depth image in
        record {
          gives = λ k h.
              let l : length (put_out (answer k) (after k)) ≡ 4 + length (body k) = ap length (given k h) ∙ omega arith in
              ap (λ (c : Answer × List ℕ). c.0) (gave k h) ∙ ap Command (sym l);
          ends = λ k h l.
              let e : ◌≡◌ {A = Answer × List ℕ} (answer k, after k) (NoMore, out k) = called k l ∙ calls_end k (out k) h in
              (ap (λ (c : Answer × List ℕ). c.0) e, ap (λ (c : Answer × List ℕ). c.1) e);
          full = λ k h. ap length (in_data k (omega arith)) ∙ data_full bytes k (rw total h);
          some = λ k h. rw (in_data k h) (data_some bytes k (rw total h));
          most = λ k h. rw (in_data k h) (data_most bytes k);
          whole = joined_cong (image_commands image) _ body in_data ∙ all_joined;
          back = read_back;
        }

-- for every image, slot and outputs
pub upload_whole : (panel depth : ℕ) (image : List ℕ) (slot : ℕ) → is_display panel depth ≡ true → length image ≡ image_bytes panel depth
    → slot ≤ 255 → (last : ℕ) → image_commands image ≤ last → (out : ℕ → List ℕ) → ((k : ℕ) → k ≤ last → 255 ≤ length (out k))
    → Uploaded panel depth image slot last out (λ k. (uploading panel depth image slot k (out k)).0)
    (λ k. (uploading panel depth image slot k (out k)).1)
upload_whole panel depth image slot good exact small last enough out room =
    uploaded panel depth image slot good exact small last enough out room _ _ (λ k l. refl)
