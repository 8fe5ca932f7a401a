-- What is promised of mending, over calls for C that keep the contracts as the checker makes them from the source. A contract that is
-- weakened in src/ is refused here, even where every function is still proved.
-- Assumes nothing.
use mathlib.Core.Path.{◌≡◌, sym, ap, ◌∙◌, subst}
use mathlib.Core.List.{List}
use Prim.Native.Nat.{ℕ, ◌≤◌}
use lib.ListN.{length, take}
use Rattle.lists.specs.Lists.{overlay}
use Rattle.lists.proofs.Calls.{Call, AsksNothing}
use Rattle.panel.specs.Panels.{rows_of, row_bytes_of, stride_of}
use Rattle.mend.specs.Mending.{ZeroPadding}
use Rattle.mend.specs.Answers.{Told, mending}
use Rattle.mend.specs.Promises.{full_length, nothing_done, Promised}
use Rattle.mend.proofs.Theorems.{answer-small, good_file, promised_of}
use Rattle.start_board.specs.Mending.{mended_number, as_number, answer_in}
use Rattle.start_board.proofs.MendNumber.{answer_back}
use Rattle.start_board.proofs.Tied.{CheckBitmap, check_bitmap_tied}
use Rattle.start_board.proofs.mending.epd_mend_bitmap.Kinds as mend-kinds
use Rattle.start_board.proofs.mending.epd_mend_bitmap.Reads as mend-reads

abbrev pub MendCall : Type 0
MendCall = Call 3 mend-kinds.ps mend-kinds.r mend-reads.Learnt

module _ (c : MendCall) where
  abbrev pub panel_of : ℕ
  panel_of = c.args.0

  abbrev pub file_of : List ℕ
  file_of = c.args.1.0.now

  abbrev pub out_of : List ℕ
  out_of = c.args.1.1.0.now

  abbrev pub list_of : List ℕ
  list_of = c.args.1.1.1.0.now

  -- the outputs at exit, and the file that was put out
  abbrev pub out_after : List ℕ
  out_after = c.exit.1.1.0.now

  abbrev pub list_after : List ℕ
  list_after = c.exit.1.1.1.0.now

  abbrev pub mended_of : List ℕ
  mended_of = take (full_length panel_of) out_after

  -- what the macros take from the answer, and the outputs, are those of mending
  kept : ◌≡◌ {A = Told × List ℕ × List ℕ} (answer_in c.result, out_after, list_after) (mending panel_of file_of out_of list_of)
  kept =
      let called : Told × List ℕ × List ℕ = mending panel_of file_of out_of list_of in
      let small = answer-small panel_of file_of out_of list_of in
      let same : answer_in (mended_number called.0) ≡ called.0 = answer_back called.0 small.0 small.1 small.2 in
      let promise : ◌≡◌ {A = ℕ × List ℕ × List ℕ} (c.result, out_after, list_after) (as_number called) = c.promised in
      ap (λ (p : ℕ × List ℕ × List ℕ). (answer_in p.0, p.1, p.2)) promise ∙ ap (λ (a : Told). (a, called.1, called.2)) same

  -- a call that answers number 0
  pub mend_tied : (answer_in c.result).number ≡ 0 → Promised panel_of file_of (answer_in c.result) mended_of list_after
  mend_tied z = promised_of panel_of file_of out_of list_of kept z

  -- the check's call on the file that it put out
  pub passes_tied : (answer_in c.result).number ≡ 0 → (k : CheckBitmap) → k.args.0 ≡ panel_of → k.args.1.0.now ≡ mended_of
      → k.result ≡ 0
  passes_tied z k panel-is file_is = rw (panel-is, file_is) at (check_bitmap_tied k) ∙ (mend_tied z).passes

-- what a call leaves that has nothing to mend
abbrev pub LeavesAll : MendCall → Type 0
LeavesAll c =
    ◌≡◌ {A = Told × List ℕ × List ℕ} (answer_in c.result, out_after c, list_after c) (nothing_done, overlay (file_of c) (out_of c), list_of c)

-- a second call, on the file that the first put out
pub twice_tied : (c d : MendCall) → (answer_in c.result).number ≡ 0 → panel_of d ≡ panel_of c → file_of d ≡ mended_of c
    → full_length (panel_of d) ≤ length (out_of d) → LeavesAll d
twice_tied c d z panel-is file_is room =
    let long : full_length (panel_of c) ≤ length (out_of d) = subst (λ (p : ℕ). full_length p ≤ length (out_of d)) panel-is room in
    kept d
    ∙ ap (λ (p : ℕ). mending p (file_of d) (out_of d) (list_of d)) panel-is
    ∙ ap (λ (f : List ℕ). mending (panel_of c) f (out_of d) (list_of d)) file_is
    ∙ (mend_tied c z).twice (out_of d) (list_of d) long
    ∙ ap (λ (f : List ℕ). (nothing_done, overlay f (out_of d), list_of d)) (sym file_is)

-- a call on a file that the check's call accepts, with zero padding
pub good_tied : (c : MendCall) (k : CheckBitmap) → k.args.0 ≡ panel_of c → k.args.1.0.now ≡ file_of c → k.result ≡ 0
    → ZeroPadding (row_bytes_of (panel_of c)) (rows_of (panel_of c)) (stride_of (panel_of c)) (file_of c)
    → full_length (panel_of c) ≤ length (out_of c) → LeavesAll c
good_tied c k panel-is file_is z zeros room =
    kept c
    ∙ good_file (panel_of c) (file_of c) (sym (rw (panel-is, file_is) at (check_bitmap_tied k)) ∙ z) zeros (out_of c) (list_of c) room

-- and the call asks nothing
pub asks_nothing : AsksNothing 3 mend-kinds.ps mend-reads.Asked
asks_nothing = λ l args. tt
