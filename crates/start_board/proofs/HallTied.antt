-- A whole upload to the hall display, its header and the checksums once more, over calls that keep the contracts as the checker makes them
-- from the source. A contract that is weakened in src/ is refused here, even where every function is still proved.
-- Assumes nothing.
use mathlib.Core.Path.{◌≡◌, sym, ap, ◌∙◌}
use mathlib.Core.Bool.{true}
use mathlib.Core.List.{List}
use Prim.Native.Nat.{ℕ, ◌+◌, ◌≤◌, ◌<◌}
use borrow.Author.Tests.{le-ltb}
use lib.ListN.{length, take, drop}
use lib.Seq.{take_at}
use Rattle.lists.specs.Lists.{overlay}
use Rattle.lists.proofs.Calls.{Call, AsksNothing}
use Rattle.hall_commands.specs.Commands.{data_in}
use Rattle.hall_commands.specs.Order.{joined}
use Rattle.hall_display.specs.Panels.{is_display, image_bytes, header}
use Rattle.hall_display.specs.Upload.{uploading}
use Rattle.hall_display.specs.Order.{image_commands}
use Rattle.hall_display.proofs.Panels.{header-length}
use Rattle.start_board.specs.Words.{as_word}
use Rattle.start_board.specs.Hall.{header_put, command_word, command_put, WordsUploaded, pointer_at, slot_at, WordsRead}
use Rattle.start_board.proofs.HallOrder.{words_uploaded, words_read}
use Rattle.start_board.proofs.hall.epd_hall_header.Kinds as header-kinds
use Rattle.start_board.proofs.hall.epd_hall_header.Reads as header-reads
use Rattle.start_board.proofs.hall.epd_hall_command.Kinds as command-kinds
use Rattle.start_board.proofs.hall.epd_hall_command.Reads as command-reads
use Rattle.start_board.proofs.hall.epd_hall_read.Kinds as read-kinds
use Rattle.start_board.proofs.hall.epd_hall_read.Reads as read-reads
use Rattle.start_board.proofs.hall.epd_hall_checksum.Kinds as table-kinds
use Rattle.start_board.proofs.hall.epd_hall_checksum.Reads as table-reads
use Rattle.start_board.proofs.hall.epd_hall_checksum_printed.Kinds as printed-kinds
use Rattle.start_board.proofs.hall.epd_hall_checksum_printed.Reads as printed-reads

-- ---- the upload

abbrev pub CommandCall : Type 0
CommandCall = Call 2 command-kinds.ps command-kinds.r command-reads.Learnt

module _ (c : CommandCall) where
  abbrev pub out_of : List ℕ
  out_of = c.args.1.1.1.1.1.0.now

  abbrev pub after_of : List ℕ
  after_of = c.exit.1.1.1.1.1.0.now

  -- the command that was put out
  abbrev pub command_of : List ℕ
  command_of = command_put c.result after_of

-- a call for the command of one number, with room for every command
pub record Asks (panel depth : ℕ) (image : List ℕ) (slot number : ℕ) (c : CommandCall) : Type 0 where
  pub panel-is : c.args.0 ≡ panel
  pub depth_is : c.args.1.0 ≡ depth
  pub image_is : c.args.1.1.0.now ≡ image
  pub slot_is : c.args.1.1.1.0 ≡ slot
  pub number_is : c.args.1.1.1.1.0 ≡ number
  pub room : 255 ≤ length (out_of c)

-- ---- the header, and reading

abbrev pub HeaderCall : Type 0
HeaderCall = Call 1 header-kinds.ps header-kinds.r header-reads.Learnt

header-put : (panel depth : ℕ) (out : List ℕ) → is_display panel depth ≡ true → 16 ≤ length out
    → header_put panel depth out ≡ (0, overlay (header panel depth) out)
unfolding header_put
header-put panel depth out good room = rw (good, le-ltb (length out) 16 room)

abbrev pub ReadCall : Type 0
ReadCall = Call 2 read-kinds.ps read-kinds.r read-reads.Learnt

module _ (reads : ℕ → ReadCall) where
  abbrev pub words_of : ℕ → ℕ
  words_of k = (reads k).result

  abbrev pub kept_of : ℕ → List ℕ
  kept_of k = (reads k).exit.1.1.1.0.now

-- a reading goes on from the pointer and the slot that the one before it left
pub record ReadsOn (slot at : ℕ) (command memory : List ℕ) (c : ReadCall) : Type 0 where
  pub slot_is : c.args.0 ≡ slot
  pub at-is : c.args.1.0 ≡ at
  pub command-is : c.args.1.1.0.now ≡ command
  pub memory-is : c.args.1.1.1.0.now ≡ memory

-- ---- all of an upload

module _ (panel depth : ℕ) (image : List ℕ) (slot : ℕ) (good : is_display panel depth ≡ true) (exact : length image ≡ image_bytes panel depth)
    (small : slot ≤ 255) (last : ℕ) (enough : image_commands image ≤ last) (calls : ℕ → CommandCall)
    (asks : (k : ℕ) → k ≤ last → Asks panel depth image slot k (calls k)) where
  kept : (k : ℕ) → k ≤ last
      → ((calls k).result, after_of (calls k)) ≡ as_word command_word (uploading panel depth image slot k (out_of (calls k)))
  kept k l =
      let a = asks k l in
      rw (a.panel-is, a.depth_is, a.image_is, a.slot_is, a.number_is) at (calls k).promised

  pub upload_tied : WordsUploaded panel depth image last (λ k. out_of (calls k)) (λ k. (calls k).result) (λ k. after_of (calls k))
  upload_tied =
      words_uploaded panel depth image slot good exact small last enough (λ k. out_of (calls k)) (λ k l. (asks k l).room)
      (λ k. (calls k).result) (λ k. after_of (calls k)) kept

  -- the header that is put out stands first in the data of the commands
  pub header_tied : (c : HeaderCall) → c.args.0 ≡ panel → c.args.1.0 ≡ depth → 16 ≤ length c.args.1.1.0.now
      → (c.result ≡ 0)
      × (take 16 (joined (image_commands image) (λ k. data_in (command_of (calls k)))) ≡ take 16 c.exit.1.1.0.now)
  header_tied c panel-is depth_is room =
      let out : List ℕ = c.args.1.1.0.now in
      let left : ℕ × List ℕ = (c.result, c.exit.1.1.0.now) in
      let promised : left ≡ header_put panel depth out = rw (panel-is, depth_is) at c.promised in
      let e : left ≡ (0, overlay (header panel depth) out) = promised ∙ header-put panel depth out good room in
      let l : length (header panel depth) ≡ 16 = header-length panel depth in (
        ap (λ (p : ℕ × List ℕ). p.0) e,
        ap (take 16) upload_tied.whole
            ∙ take_at (header panel depth) image 16 l
            ∙ sym (ap (λ (p : ℕ × List ℕ). take 16 p.1) e ∙ take_at (header panel depth) (drop (length (header panel depth)) out) 16 l),
      )

  -- the commands read back, from pointer 0 on
  pub read_tied : (memory : List ℕ) → 16 + length image ≤ length memory → (reads : ℕ → ReadCall)
      → ((k : ℕ) → k < image_commands image → ReadsOn slot (pointer_at (words_of reads) k) (command_of (calls k)) (slot_at memory (kept_of reads) k) (reads k))
      → WordsRead panel depth image memory (words_of reads) (kept_of reads)
  read_tied memory fits reads chain =
      words_read panel depth image slot good exact small last enough (λ k. out_of (calls k)) (λ k l. (asks k l).room)
      (λ k. (calls k).result) (λ k. after_of (calls k)) kept memory fits (words_of reads) (kept_of reads)
      (λ k h.
      let c = chain k h in
      rw (c.slot_is, c.at-is, c.command-is, c.memory-is) at (reads k).promised)

-- ---- the checksums

abbrev pub TableCall : Type 0
TableCall = Call 1 table-kinds.ps table-kinds.r table-reads.Learnt

abbrev pub PrintedCall : Type 0
PrintedCall = Call 1 printed-kinds.ps printed-kinds.r printed-reads.Learnt

-- over any bytes and any start value they are equal
pub checksums_tied : (t : TableCall) (p : PrintedCall) → t.args.0 ≡ p.args.0 → t.args.1.0.now ≡ p.args.1.0.now
    → t.result ≡ p.result
checksums_tied t p start bytes = rw (start, bytes) at t.promised ∙ sym p.promised

-- ---- none of these calls asks anything of what it is given: a `requires` that is added to one is refused here

pub record AskNothing : Type 0 where
  pub hall_header : AsksNothing 1 header-kinds.ps header-reads.Asked
  pub hall_command : AsksNothing 2 command-kinds.ps command-reads.Asked
  pub hall_read : AsksNothing 2 read-kinds.ps read-reads.Asked
  pub hall_checksum : AsksNothing 1 table-kinds.ps table-reads.Asked
  pub hall_checksum_printed : AsksNothing 1 printed-kinds.ps printed-reads.Asked

pub asks_nothing : AskNothing
asks_nothing =
    record {
      hall_header = λ l args. tt;
      hall_command = λ l args. tt;
      hall_read = λ l args. tt;
      hall_checksum = λ l args. tt;
      hall_checksum_printed = λ l args. tt;
    }
