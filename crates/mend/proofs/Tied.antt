-- What is promised of mending once more, over calls that keep the contract as the checker makes it from the source. A contract that is
-- weakened in src/, or that asks something of its arguments, is refused here, even where every function is still proved.
-- Assumes nothing.
use mathlib.Core.Path.{◌≡◌}
use mathlib.Core.List.{List}
use Prim.Native.Nat.{ℕ, ◌≤◌}
use lib.ListN.{length, take}
use Rattle.lists.specs.Lists.{overlay}
use Rattle.lists.proofs.Calls.{Call, AsksNothing}
use Rattle.panel.specs.Panels.{rows_of, row_bytes_of, stride_of}
use Rattle.bitmap.specs.Bitmap.{check_bitmap}
use Rattle.mend.specs.Mending.{ZeroPadding}
use Rattle.mend.specs.Answers.{Told, told_by}
use Rattle.mend.specs.Promises.{full_length, nothing_done, Promised}
use Rattle.mend.proofs.Theorems.{good_file, promised_of}
use Rattle.mend.proofs.mend.Kinds as mend-kinds
use Rattle.mend.proofs.mend.Reads as mend-reads

abbrev pub MendCall : Type 0
MendCall = Call 3 mend-kinds.ps mend-kinds.r mend-reads.Learnt

module _ (c : MendCall) where
  abbrev pub panel_of : ℕ
  panel_of = c.args.0

  abbrev pub file_of : List ℕ
  file_of = c.args.1.0.now

  abbrev pub out_of : List ℕ
  out_of = c.args.1.1.0.now

  abbrev pub list_of : List ℕ
  list_of = c.args.1.1.1.0.now

  -- the outputs at exit
  abbrev pub out_after : List ℕ
  out_after = c.exit.1.1.0.now

  abbrev pub list_after : List ℕ
  list_after = c.exit.1.1.1.0.now

  -- a call that answers number 0
  pub mend_tied : (told_by c.result).number ≡ 0 → Promised panel_of file_of (told_by c.result) (take (full_length panel_of) out_after) list_after
  mend_tied z = promised_of panel_of file_of out_of list_of c.promised z

  -- a call on a file that the check accepts, with zero padding and with room for the file
  pub good_tied : check_bitmap panel_of file_of ≡ 0 → ZeroPadding (row_bytes_of panel_of) (rows_of panel_of) (stride_of panel_of) file_of
      → full_length panel_of ≤ length out_of
      → ◌≡◌ {A = Told × List ℕ × List ℕ} (told_by c.result, out_after, list_after) (nothing_done, overlay file_of out_of, list_of)
  good_tied e zeros room = rw (good_file panel_of file_of e zeros out_of list_of room) at c.promised

-- and it asks nothing
pub asks_nothing : AsksNothing 3 mend-kinds.ps mend-reads.Asked
asks_nothing = λ l args. tt
