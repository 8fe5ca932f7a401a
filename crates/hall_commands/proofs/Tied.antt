-- Commands read back once more, over calls that keep the contracts as the checker makes them from the source. A contract that is weakened in
-- src/ is refused here, even where every function is still proved.
-- Assumes nothing.
use mathlib.Core.Path.{◌≡◌, refl, ap, ◌∙◌}
use mathlib.Core.List.{List}
use Prim.Native.Nat.{ℕ, zero, suc, ◌≤◌, ◌<◌}
use native.Mathlib.Nat.{zero-add}
use native.Mathlib.Omega.{arith}
use borrow.Author.Tests.{eq-eqb}
use lib.ListN.{length}
use Rattle.lists.specs.Lists.{overlay}
use Rattle.lists.proofs.Calls.{Call, AsksNothing}
use Rattle.hall_commands.specs.Commands.{command}
use Rattle.hall_commands.specs.Reading.{Reply, reader_at, reply, reply_of}
use Rattle.hall_commands.specs.Order.{joined, read_in_order}
use Rattle.hall_commands.specs.declared.Reader.{Reader}
use Rattle.hall_commands.proofs.Order.{not-refused, read_joined}
use Rattle.hall_commands.proofs.Reader.new.Kinds as new-kinds
use Rattle.hall_commands.proofs.Reader.new.Reads as new-reads
use Rattle.hall_commands.proofs.Reader.reset.Kinds as reset-kinds
use Rattle.hall_commands.proofs.Reader.reset.Reads as reset-reads
use Rattle.hall_commands.proofs.Reader.read.Kinds as read-kinds
use Rattle.hall_commands.proofs.Reader.read.Reads as read-reads

-- ---- reading

abbrev pub ReadCall : Type 0
ReadCall = Call 3 read-kinds.ps read-kinds.r read-reads.Learnt

-- what stands after n readings
abbrev pub read_so_far : Reader → List ℕ → (ℕ → ReadCall) → ℕ → Reply × List ℕ
read_so_far reader memory reads zero = (reply 0 reader, memory)
read_so_far reader memory reads (suc k) =
    (reply_of (reads k).exit.0.now (reads k).result, (reads k).exit.1.1.0.now)

-- a reading goes on from what the one before it left
pub record Reads (before : Reply × List ℕ) (command : List ℕ) (c : ReadCall) : Type 0 where
  pub reader_is : c.args.0.now ≡ before.0.reader
  pub command-is : c.args.1.0.now ≡ command
  pub memory-is : c.args.1.1.0.now ≡ before.1

-- the readings of commands 0 to n - 1
abbrev pub InOrder : ℕ → Reader → List ℕ → (ℕ → List ℕ) → (ℕ → ReadCall) → Type 0
InOrder n reader memory command reads = (k : ℕ) → k < n → Reads (read_so_far reader memory reads k) (command k) (reads k)

pub read_tied : (reader : Reader) (memory : List ℕ) (command : ℕ → List ℕ) (reads : ℕ → ReadCall) (n : ℕ) → InOrder n reader memory command reads
    → (read_in_order n command reader memory).0.number ≡ 0 → read_so_far reader memory reads n ≡ read_in_order n command reader memory
read_tied reader memory command reads zero chain e = refl
read_tied reader memory command reads (suc n) chain e =
    let before : Reply × List ℕ = read_in_order n command reader memory in
    let z : before.0.number ≡ 0 = not-refused before (command n) e in
    let same : read_so_far reader memory reads n ≡ before = read_tied reader memory command reads n (λ k h. chain k (omega arith)) z in
    let c : Reads (read_so_far reader memory reads n) (command n) (reads n) = chain n (omega arith) in
    rw (c.reader_is, c.command-is, c.memory-is, same) at (reads n).promised ∙ rw (eq-eqb before.0.number 0 z)

-- a reader that was made, and one that was reset
abbrev pub NewCall : Type 0
NewCall = Call 0 new-kinds.ps new-kinds.r new-reads.Learnt

abbrev pub ResetCall : Type 0
ResetCall = Call 0 reset-kinds.ps reset-kinds.r reset-reads.Learnt

-- any parts of 1 to 251 bytes, each in a command, read in order into a slot that is long enough
module _ (slot : ℕ) (small : slot ≤ 255) (n : ℕ) (part : ℕ → List ℕ) (some : (k : ℕ) → k < n → 1 ≤ length (part k))
    (most : (k : ℕ) → k < n → length (part k) ≤ 251) (memory : List ℕ) (fits : length (joined n part) ≤ length memory)
    (reads : ℕ → ReadCall) where
  abbrev commands : ℕ → List ℕ
  commands k = command slot (part k)

  -- the parts joined at the front of the slot, the rest as it was, and the pointer after them
  abbrev Back : Reader → Type 0
  Back reader =
      read_so_far reader memory reads n ≡ (reply 0 (reader_at slot (length (joined n part))), overlay (joined n part) memory)

  from_front : (reader : Reader) → reader ≡ reader_at slot 0 → InOrder n reader memory commands reads → Back reader
  from_front reader e chain =
      let start : Reader = reader_at slot 0 in
      let chain₀ : InOrder n start memory commands reads = rw e at chain in
      let back : read_in_order n commands start memory ≡ (reply 0 (reader_at slot (length (joined n part))), overlay (joined n part) memory) =
      rw zero-add at (read_joined slot small n part 0 memory some most (omega arith)) in
      rw e (read_tied start memory commands reads n chain₀ (ap (λ (c : Reply × List ℕ). c.0.number) back) ∙ back)

  -- by a new reader, or by one that was reset, wherever it stood
  pub new_back : (c : NewCall) → c.args.0 ≡ slot → InOrder n c.result memory commands reads → Back c.result
  new_back c slot_is = from_front c.result (rw slot_is at c.promised)

  pub reset_back : (c : ResetCall) → c.args.0.slot ≡ slot → InOrder n c.result memory commands reads → Back c.result
  reset_back c slot_is = from_front c.result (rw slot_is at c.promised)

-- ---- none of these calls asks anything of what it is given: a `requires` that is added to one is refused here

pub record AskNothing : Type 0 where
  pub new_reader : AsksNothing 0 new-kinds.ps new-reads.Asked
  pub reset_reader : AsksNothing 0 reset-kinds.ps reset-reads.Asked
  pub read_command : AsksNothing 3 read-kinds.ps read-reads.Asked

pub asks_nothing : AskNothing
asks_nothing =
    record {
      new_reader = λ l args. tt;
      reset_reader = λ l args. tt;
      read_command = λ l args. tt;
    }
