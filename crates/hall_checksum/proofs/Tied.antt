-- The two checksums once more, over calls that keep the contracts as the checker makes them from the source. A contract that is weakened in
-- src/ is refused here, even where every function is still proved.
-- Assumes nothing.
use mathlib.Core.Path.{◌≡◌, sym, ◌∙◌}
use Rattle.lists.proofs.Calls.{Call, AsksNothing}
use Rattle.hall_checksum.proofs.checksum.Kinds as printed-kinds
use Rattle.hall_checksum.proofs.checksum.Reads as printed-reads
use Rattle.hall_checksum.proofs.checksum_by_table.Kinds as table-kinds
use Rattle.hall_checksum.proofs.checksum_by_table.Reads as table-reads

abbrev pub PrintedCall : Type 0
PrintedCall = Call 1 printed-kinds.ps printed-kinds.r printed-reads.Learnt

abbrev pub TableCall : Type 0
TableCall = Call 1 table-kinds.ps table-kinds.r table-reads.Learnt

-- over any bytes and any start value they are equal
pub checksums_tied : (p : PrintedCall) (t : TableCall) → p.args.0 ≡ t.args.0 → p.args.1.0.now ≡ t.args.1.0.now
    → p.result ≡ t.result
checksums_tied p t start bytes = rw (start, bytes) at p.promised ∙ sym t.promised

-- ---- neither asks anything of what it is given: a `requires` that is added to one is refused here

pub record AskNothing : Type 0 where
  pub checksum : AsksNothing 1 printed-kinds.ps printed-reads.Asked
  pub checksum_by_table : AsksNothing 1 table-kinds.ps table-reads.Asked

pub asks_nothing : AskNothing
asks_nothing =
    record {
      checksum = λ l args. tt;
      checksum_by_table = λ l args. tt;
    }
