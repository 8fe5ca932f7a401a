-- A whole upload to the hall display: the words of its calls and their outputs hold header and image, and reading them brings these back.
-- Assumes nothing.
use mathlib.Core.Path.{◌≡◌, refl, sym, ap, ◌∙◌}
use mathlib.Core.Bool.{true}
use mathlib.Core.List.{List, ◌++◌}
use mathlib.Core.Logic.{⊎_elim}
use Prim.Native.Nat.{ℕ, zero, suc, ◌+◌, ◌-◌, ◌^◌, ◌≤◌, ◌<◌}
use native.Mathlib.Nat.{eq-or-lt_of_le}
use native.Mathlib.Omega.{arith}
use lib.ListN.{length, take, length-drop}
use Rattle.lists.specs.Lists.{overlay}
use Rattle.hall_commands.specs.Commands.{data_in}
use Rattle.hall_commands.specs.Reading.{Reply, reader_at, reply, reading}
use Rattle.hall_commands.specs.Order.{read_next, read_in_order}
use Rattle.hall_commands.proofs.Reading.{read_accepted}
use Rattle.hall_commands.proofs.Order.{joined_cong, read_cong, not-refused}
use Rattle.hall_display.specs.Panels.{is_display, image_bytes, header}
use Rattle.hall_display.specs.Upload.{Answer, Command, put_out, uploading}
use Rattle.hall_display.specs.Order.{image_commands, Uploaded}
use Rattle.hall_display.proofs.Order.{upload_whole}
use Rattle.start_board.specs.Words.{word, as_word, kind_in, value_in}
use Rattle.start_board.specs.Hall.{command_word, read_word, command_put, WordsUploaded, pointer_at, slot_at, WordsRead}
use Rattle.start_board.proofs.Reading.{kind_of_lem, value_of}

-- ---- one reading

-- the word of a reading that is accepted
read_word_lem : (slot at : ℕ) (command memory : List ℕ) {w : ℕ} {after : List ℕ}
    → (w, after) ≡ as_word (read_word at) (reading (reader_at slot at) command memory)
    → (reading (reader_at slot at) command memory).0.number ≡ 0
    → (kind_in w ≡ 1) × (reading (reader_at slot at) command memory ≡ (reply 0 (reader_at slot (at + value_in w)), after))
read_word_lem slot at command memory {w} {after} e z =
    let called : Reply × List ℕ = reading (reader_at slot at) command memory in
    let n : ℕ = length (data_in command) in
    let a = read_accepted (reader_at slot at) command memory z in
    let moved : at + n - at ≡ n = omega arith in
    let is : w ≡ word 1 n =
    ap (λ (c : ℕ × List ℕ). c.0) e ∙ ap (λ (c : Reply × List ℕ). read_word at c.0) a.0 ∙ ap (word 1) moved in
    let left : after ≡ called.1 = ap (λ (c : ℕ × List ℕ). c.1) e in
    let small : n < 2 ^ 24 = omega (arith, a.1) in
    let v : value_in w ≡ n = ap value_in is ∙ value_of 1 n small in (
      ap kind_in is ∙ kind_of_lem 1 n small,
      rw (v, left, a.0),
    )

-- ---- readings in order

module _ (slot : ℕ) (memory : List ℕ) (command : ℕ → List ℕ) (words : ℕ → ℕ) (after : ℕ → List ℕ)
    (all : ℕ) (called : (k : ℕ) → k < all → (words k, after k)
    ≡ as_word (read_word (pointer_at words k)) (reading (reader_at slot (pointer_at words k)) (command k) (slot_at memory after k))) where
  abbrev so_far : ℕ → Reply × List ℕ
  so_far n = read_in_order n command (reader_at slot 0) memory

  step : (n : ℕ) → n < all → so_far n ≡ (reply 0 (reader_at slot (pointer_at words n)), slot_at memory after n) → (so_far (suc n)).0.number ≡ 0
      → (kind_in (words n) ≡ 1) × (so_far (suc n) ≡ (reply 0 (reader_at slot (pointer_at words (suc n))), after n))
  step n h before e =
      let called-by : Reply × List ℕ = reading (reader_at slot (pointer_at words n)) (command n) (slot_at memory after n) in
      let next : so_far (suc n) ≡ called-by = ap (λ (c : Reply × List ℕ). read_next c (command n)) before in
      let z : called-by.0.number ≡ 0 = sym (ap (λ (c : Reply × List ℕ). c.0.number) next) ∙ e in
      let read = read_word_lem slot (pointer_at words n) (command n) (slot_at memory after n) (called n h) z in
      (read.0, next ∙ read.1)

  -- the pointer that the caller keeps, and the slot, are those of the readings so far
  so_far_lem : (n : ℕ) → n ≤ all → (so_far n).0.number ≡ 0 → so_far n ≡ (reply 0 (reader_at slot (pointer_at words n)), slot_at memory after n)
  so_far_lem zero h e = refl
  so_far_lem (suc n) h e = (step n h (so_far_lem n (omega arith) (not-refused (so_far n) (command n) e)) e).1

  good-before : (n k : ℕ) → k ≤ n → (so_far n).0.number ≡ 0 → (so_far k).0.number ≡ 0
  good-before zero k h e = let q : k ≡ 0 = omega arith in rw q e
  good-before (suc n) k h e =
      ⊎_elim (λ (q : k ≡ suc n). rw q e) (λ (l : k < suc n). good-before n k (omega arith) (not-refused (so_far n) (command n) e))
      (eq-or-lt_of_le h)

  all_taken : (so_far all).0.number ≡ 0 → (k : ℕ) → k < all → kind_in (words k) ≡ 1
  all_taken e k h =
      let z : (so_far (suc k)).0.number ≡ 0 = good-before all (suc k) h e in
      (step k h (so_far_lem k (omega arith) (not-refused (so_far k) (command k) z)) z).0

-- ---- the upload of an image

module _ (panel depth : ℕ) (image : List ℕ) (slot : ℕ) (good : is_display panel depth ≡ true)
    (exact : length image ≡ image_bytes panel depth) (small : slot ≤ 255) (last : ℕ) (enough : image_commands image ≤ last)
    (out : ℕ → List ℕ) (room : (k : ℕ) → k ≤ last → 255 ≤ length (out k)) (words : ℕ → ℕ) (after : ℕ → List ℕ)
    (called : (k : ℕ) → k ≤ last → (words k, after k) ≡ as_word command_word (uploading panel depth image slot k (out k))) where
  abbrev answer : ℕ → Answer
  answer k = (uploading panel depth image slot k (out k)).0

  abbrev left : ℕ → List ℕ
  left k = (uploading panel depth image slot k (out k)).1

  all : Uploaded panel depth image slot last out answer left
  all = upload_whole panel depth image slot good exact small last enough out room

  is : (k : ℕ) → k ≤ last → words k ≡ command_word (answer k)
  is k l = ap (λ (c : ℕ × List ℕ). c.0) (called k l)

  left_is : (k : ℕ) → k ≤ last → after k ≡ left k
  left_is k l = ap (λ (c : ℕ × List ℕ). c.1) (called k l)

  -- the kind and the value of the word, and the command that they tell of
  told : (k : ℕ) → k < image_commands image → (kind_in (words k) ≡ 1) × (command_put (words k) (after k) ≡ put_out (answer k) (left k))
  told k h =
      let l : k ≤ last = omega arith in
      let n : ℕ = length (put_out (answer k) (left k)) in
      let gave : answer k ≡ Command n = all.gives k h in
      let data_length_lem : length (data_in (put_out (answer k) (left k))) ≡ n - 4 = length-drop 4 (put_out (answer k) (left k)) in
      let short : n < 2 ^ 24 = omega (arith, data_length_lem, all.most k h) in
      let w : words k ≡ word 1 n = is k l ∙ ap command_word gave in
      let v : value_in (words k) ≡ n = ap value_in w ∙ value_of 1 n short in (
        ap kind_in w ∙ kind_of_lem 1 n short,
        ap (λ (m : ℕ). take m (after k)) v ∙ ap (take n) (left_is k l) ∙ ap (λ (a : Answer). put_out a (left k)) (sym gave),
      )

  pub words_uploaded : WordsUploaded panel depth image last out words after
  words_uploaded =
      record {
        kinds = λ k h. (told k h).0;
        ends = λ k h l. (is k l ∙ ap command_word (all.ends k h l).0, left_is k l ∙ (all.ends k h l).1);
        whole = joined_cong (image_commands image) _ (λ k. data_in (put_out (answer k) (left k))) (λ k h. ap data_in (told k h).1) ∙ all.whole;
      }

  -- its commands, read in order
  pub words_read : (memory : List ℕ) → 16 + length image ≤ length memory → (reads : ℕ → ℕ) (kept : ℕ → List ℕ)
      → ((k : ℕ) → k < image_commands image → (reads k, kept k)
      ≡ as_word (read_word (pointer_at reads k))
      (reading (reader_at slot (pointer_at reads k)) (command_put (words k) (after k)) (slot_at memory kept k)))
      → WordsRead panel depth image memory reads kept
  words_read memory fits reads kept read =
      let n : ℕ = image_commands image in
      let command : ℕ → List ℕ = λ k. command_put (words k) (after k) in
      let back : read_in_order n command (reader_at slot 0) memory
      ≡ (reply 0 (reader_at slot (16 + length image)), overlay (header panel depth ++ image) memory) =
      read_cong n command (λ k. put_out (answer k) (left k)) (reader_at slot 0) memory (λ k h. (told k h).1) ∙ all.back memory fits in
      let z : (read_in_order n command (reader_at slot 0) memory).0.number ≡ 0 = ap (λ (c : Reply × List ℕ). c.0.number) back in
      let same = sym (so_far_lem slot memory command reads kept n read n (omega arith) z) ∙ back in
      record {
        kinds = all_taken slot memory command reads kept n read z;
        slot = ap (λ (c : Reply × List ℕ). c.1) same;
        pointer = ap (λ (c : Reply × List ℕ). c.0.reader.at) same;
      }
