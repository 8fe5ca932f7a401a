-- Change request 2026-12: a whole upload, its commands given and read back in order.
-- Assumes nothing.
use Rattle.std.specs.Prelude.{◌≡◌, ℕ, suc, ◌+◌, ◌≤◌, ◌<◌, List, ◌++◌, length}
use Rattle.lists.specs.Lists.{overlay}
use Rattle.hall_commands.specs.Commands.{data_in, command_count}
use Rattle.hall_commands.specs.Reading.{reader_at, reply}
use Rattle.hall_commands.specs.Order.{joined, read_in_order}
use Rattle.hall_display.specs.Panels.{header}
use Rattle.hall_display.specs.Upload.{Answer, Command, NoMore, put_out}

-- how many commands an image makes
abbrev pub image_commands : (image : List ℕ) → ℕ
image_commands image = command_count (16 + length image)

-- What is promised of an upload. The numbers 0 to `last` were asked for; the call of number k answered `answer k`, and left its output,
-- `out k`, as `after k`.
pub record Uploaded (panel depth : ℕ) (image : List ℕ) (slot last : ℕ) (out : ℕ → List ℕ) (answer : ℕ → Answer) (after : ℕ → List ℕ) : Type 0 where
  -- there are as many commands as the length of header and image over 251, rounded up
  pub gives : (k : ℕ) → k < image_commands image → answer k ≡ Command (length (put_out (answer k) (after k)))
  pub ends : (k : ℕ) → image_commands image ≤ k → k ≤ last → (answer k ≡ NoMore) × (after k ≡ out k)
  -- each has 251 bytes of data but the last, which has some
  pub full : (k : ℕ) → suc k < image_commands image → length (data_in (put_out (answer k) (after k))) ≡ 251
  pub some : (k : ℕ) → k < image_commands image → 1 ≤ length (data_in (put_out (answer k) (after k)))
  pub most : (k : ℕ) → k < image_commands image → length (data_in (put_out (answer k) (after k))) ≤ 251
  -- the data of all, joined, is header and image
  pub whole : joined (image_commands image) (λ k. data_in (put_out (answer k) (after k))) ≡ header panel depth ++ image
  -- read in order into a slot that is long enough, they leave header and image at its front, the rest as it was, and the pointer after them
  pub back : (memory : List ℕ) → 16 + length image ≤ length memory
      → read_in_order (image_commands image) (λ k. put_out (answer k) (after k)) (reader_at slot 0) memory
      ≡ (reply 0 (reader_at slot (16 + length image)), overlay (header panel depth ++ image) memory)
