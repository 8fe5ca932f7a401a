-- A whole upload once more, over calls that keep the contracts as the checker makes them from the source. A contract that
-- is weakened in src/ is refused here, even where every function is still proved.
-- Assumes nothing.
use mathlib.Core.Path.{◌≡◌, ap, ◌∙◌}
use mathlib.Core.Bool.{true}
use mathlib.Core.List.{List, ◌++◌}
use Prim.Native.Nat.{ℕ, ◌+◌, ◌≤◌}
use lib.ListN.{length, take}
use lib.Seq.{take_at}
use Rattle.lists.specs.Lists.{overlay}
use Rattle.lists.proofs.Calls.{Call, AsksNothing}
use Rattle.hall_commands.specs.Commands.{data_in}
use Rattle.hall_commands.specs.Reading.{Reply, reader_at, reply}
use Rattle.hall_commands.specs.Order.{joined}
use Rattle.hall_commands.specs.declared.Reader.{Reader}
use Rattle.std.proofs.Common.{Ok}
use Rattle.hall_commands.proofs.Tied.{ReadCall, read_so_far, InOrder, read_tied, NewCall, ResetCall}
use Rattle.hall_display.specs.Panels.{is_display, image_bytes, header}
use Rattle.hall_display.specs.Upload.{put_out, answer_of}
use Rattle.hall_display.specs.Order.{image_commands, Uploaded}
use Rattle.hall_display.proofs.Panels.{header-length}
use Rattle.hall_display.proofs.Upload.{made_bytes}
use Rattle.hall_display.proofs.Order.{uploaded}
use Rattle.hall_display.proofs.make_header.Kinds as header-kinds
use Rattle.hall_display.proofs.make_header.Reads as header-reads
use Rattle.hall_display.proofs.upload_command.Kinds as upload-kinds
use Rattle.hall_display.proofs.upload_command.Reads as upload-reads

-- ---- the upload

abbrev pub UploadCall : Type 0
UploadCall = Call 2 upload-kinds.ps upload-kinds.r upload-reads.Learnt

module _ (c : UploadCall) where
  abbrev pub out_of : List ℕ
  out_of = c.args.1.1.1.1.1.0.now

  abbrev pub after_of : List ℕ
  after_of = c.exit.1.1.1.1.1.0.now

  -- the command that was put out
  abbrev pub command_of : List ℕ
  command_of = put_out (answer_of c.result) after_of

-- a call for the command of one number, with room for every command
pub record Asks (panel depth : ℕ) (image : List ℕ) (slot number : ℕ) (c : UploadCall) : Type 0 where
  pub panel-is : c.args.0 ≡ panel
  pub depth_is : c.args.1.0 ≡ depth
  pub image_is : c.args.1.1.0.now ≡ image
  pub slot_is : c.args.1.1.1.0 ≡ slot
  pub number_is : c.args.1.1.1.1.0 ≡ number
  pub room : 255 ≤ length (out_of c)

pub upload_tied : (panel depth : ℕ) (image : List ℕ) (slot : ℕ) → is_display panel depth ≡ true → length image ≡ image_bytes panel depth
    → slot ≤ 255 → (last : ℕ) → image_commands image ≤ last → (calls : ℕ → UploadCall)
    → ((k : ℕ) → k ≤ last → Asks panel depth image slot k (calls k))
    → Uploaded panel depth image slot last (λ k. out_of (calls k)) (λ k. answer_of (calls k).result) (λ k. after_of (calls k))
upload_tied panel depth image slot good exact small last enough calls asks =
    uploaded panel depth image slot good exact small last enough (λ k. out_of (calls k)) (λ k l. (asks k l).room) (λ k. answer_of (calls k).result)
    (λ k. after_of (calls k))
    (λ k l.
    let a = asks k l in
    rw (a.panel-is, a.depth_is, a.image_is, a.slot_is, a.number_is) at (calls k).promised)

-- ---- the header

abbrev pub HeaderCall : Type 0
HeaderCall = Call 0 header-kinds.ps header-kinds.r header-reads.Learnt

-- ---- all of an upload

module _ (panel depth : ℕ) (image : List ℕ) (slot : ℕ) (good : is_display panel depth ≡ true) (exact : length image ≡ image_bytes panel depth)
    (small : slot ≤ 255) (last : ℕ) (enough : image_commands image ≤ last) (calls : ℕ → UploadCall)
    (asks : (k : ℕ) → k ≤ last → Asks panel depth image slot k (calls k)) where
  abbrev given : ℕ → List ℕ
  given k = command_of (calls k)

  -- the header that is made stands first in the data of the commands
  pub header_tied : (c : HeaderCall) → c.args.0 ≡ panel → c.args.1.0 ≡ depth
      → c.result ≡ Ok (take 16 (joined (image_commands image) (λ k. data_in (given k))))
  header_tied c panel-is depth_is =
      let first : take 16 (joined (image_commands image) (λ k. data_in (given k))) ≡ header panel depth =
      ap (take 16) (upload_tied panel depth image slot good exact small last enough calls asks).whole
      ∙ take_at (header panel depth) image 16 (header-length panel depth) in
      rw first (rw (panel-is, depth_is) at c.promised ∙ made_bytes panel depth good)

  module _ (memory : List ℕ) (fits : 16 + length image ≤ length memory) (reads : ℕ → ReadCall) where
    -- header and image at the front of the slot, the rest as it was, and the pointer after them
    abbrev Back : Reader → Type 0
    Back reader =
        read_so_far reader memory reads (image_commands image)
        ≡ (reply 0 (reader_at slot (16 + length image)), overlay (header panel depth ++ image) memory)

    from_front : (reader : Reader) → reader ≡ reader_at slot 0 → InOrder (image_commands image) reader memory given reads → Back reader
    from_front reader e chain =
        let start : Reader = reader_at slot 0 in
        let chain₀ : InOrder (image_commands image) start memory given reads = rw e at chain in
        let back = (upload_tied panel depth image slot good exact small last enough calls asks).back memory fits in
        rw e
        (read_tied start memory given reads (image_commands image) chain₀ (ap (λ (c : Reply × List ℕ). c.0.number) back) ∙ back)

    -- the commands read back, by a new reader or by one that was reset, wherever it stood
    pub new_tied : (c : NewCall) → c.args.0 ≡ slot → InOrder (image_commands image) c.result memory given reads → Back c.result
    new_tied c slot_is = from_front c.result (rw slot_is at c.promised)

    pub reset_tied : (c : ResetCall) → c.args.0.slot ≡ slot → InOrder (image_commands image) c.result memory given reads → Back c.result
    reset_tied c slot_is = from_front c.result (rw slot_is at c.promised)

-- ---- none of these calls asks anything of what it is given: a `requires` that is added to one is refused here

pub record AskNothing : Type 0 where
  pub make_header : AsksNothing 0 header-kinds.ps header-reads.Asked
  pub upload_command : AsksNothing 2 upload-kinds.ps upload-reads.Asked

pub asks_nothing : AskNothing
asks_nothing =
    record {
      make_header = λ l args. tt;
      upload_command = λ l args. tt;
    }
