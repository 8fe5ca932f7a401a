-- What makes a command an upload, and the ways out of a reading.
-- Assumes nothing.
use mathlib.Core.Path.{◌≡◌, refl, sym, ◌∙◌}
use mathlib.Core.Bool.{true, false, false≢true}
use mathlib.Core.List.{List}
use Prim.Native.Nat.{ℕ, ◌+◌, ◌-◌, ◌≤◌, ◌<◌}
use native.Mathlib.Omega.{arith}
use borrow.Author.Tests.{not-false, leb-true, eqb-true, eq-eqb, lt-ltb, le-ltb}
use lib.ListN.{length, take, drop, get_or, length-drop}
use lib.Seq.{take_all}
use Rattle.lists.specs.Lists.{overlay_at}
use Rattle.lists.proofs.Rules.{None, past, holds, by_cases}
use Rattle.hall_commands.specs.Commands.{data_in}
use Rattle.hall_commands.specs.Reading.{Reply, reader_at, reply, upload_tests, is_upload, read_cases, reading}
use Rattle.hall_commands.specs.declared.Reader.{Reader}

-- ---- an upload

module _ (slot : ℕ) (command : List ℕ) where
  pub upload_long : is_upload slot command ≡ true → 4 ≤ length command
  unfolding is_upload
  upload_long e = omega (arith, eqb-true (length command) (4 + get_or command 3 0) (holds 5 (upload_tests slot command) e))

  pub upload_short : is_upload slot command ≡ true → length command ≤ 255
  unfolding is_upload
  upload_short e =
      let tests = upload_tests slot command in
      omega (arith, eqb-true (length command) (4 + get_or command 3 0) (holds 5 tests e), leb-true (get_or command 3 0) 251 (holds 4 tests e))

-- ---- the ways out

-- what the code lends: the bytes from index 4 to the end
abbrev lent : (command : List ℕ) → List ℕ
lent command = take (length command - 4) (drop 4 command)

data_lent : (command : List ℕ) → lent command ≡ data_in command
data_lent command = take_all (length command - 4) (drop 4 command) (rw length-drop (omega arith))

pub lent_length : (command : List ℕ) → length (lent command) ≡ length command - 4
lent_length command = rw (data_lent command, length-drop)

module _ (reader : Reader) (command memory : List ℕ) where
  pub other_slot : 255 < reader.slot → (reply 26 reader, memory) ≡ reading reader command memory
  unfolding reading
  other_slot h = rw (lt-ltb 255 reader.slot h)

  module _ (small : reader.slot ≤ 255) where
    pub other_command : is_upload reader.slot command ≡ false → (reply 27 reader, memory) ≡ reading reader command memory
    unfolding reading
    other_command bad = rw (le-ltb 255 reader.slot small, bad)

    module _ (good : is_upload reader.slot command ≡ true) where
      pub overrun : length memory < reader.at + length (lent command) → (reply 28 reader, memory) ≡ reading reader command memory
      unfolding reading
      overrun h =
          let long = rw (data_lent command) at h in
          rw (le-ltb 255 reader.slot small, good, lt-ltb (length memory) (reader.at + length (data_in command)) long)

      pub read_taken : {after : List ℕ} → reader.at + length (lent command) ≤ length memory → after ≡ overlay_at reader.at (lent command) memory
          → (reply 0 (reader_at reader.slot (reader.at + length (lent command))), after) ≡ reading reader command memory
      unfolding reading
      read_taken h p =
          let fits = rw (data_lent command) at h in
          rw (p, data_lent command, le-ltb 255 reader.slot small, good, le-ltb (length memory) (reader.at + length (data_in command)) fits)

-- ---- a reading that is accepted

pub read_accepted : (reader : Reader) (command memory : List ℕ) → (reading reader command memory).0.number ≡ 0
    → (reading reader command memory
    ≡ (reply 0 (reader_at reader.slot (reader.at + length (data_in command))), overlay_at reader.at (data_in command) memory))
    × (length (data_in command) ≤ 251)
unfolding reading
read_accepted reader command memory =
    by_cases
    (λ (called : Reply × List ℕ).
    called.0.number ≡ 0
    → (called
    ≡ (reply 0 (reader_at reader.slot (reader.at + length (data_in command))), overlay_at reader.at (data_in command) memory))
    × (length (data_in command) ≤ 251))
    (read_cases reader command (length memory)) (λ n. (reply n reader, memory)) _ refl
    (λ n d e. absurd (false≢true (sym d ∙ eq-eqb n 0 e)))
    (λ free e. (refl, size free))
  where
    size : None (read_cases reader command (length memory)) → length (data_in command) ≤ 251
    size (past e (past f rest)) =
        let h : length command ≤ 255 = upload_short reader.slot command (not-false (is_upload reader.slot command) f) in
        rw length-drop (omega arith)
