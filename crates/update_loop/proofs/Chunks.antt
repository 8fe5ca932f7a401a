-- How many chunks a file has, its first one, and the loop that feeds them. Assumes nothing.
use Rattle.std.proofs.Common.{◌≡◌, ℕ, zero, suc, ◌+◌, ◌-◌, ◌/◌, ◌<◌, ◌≤◌, List, [], ◌∷◌, length, take, drop, sym, ap, ◌∙◌, add-one, arith, length-drop, drop_of_length-le, take_all, drop-drop, le-leb}
use native.Mathlib.Nat.{div-zero, div-eq_of_lt, div-eq-sub-div}
use native.Mathlib.Decide.{dec_le}
use borrow.Author.Tests.{lt-leb}
use lib.Seq.{drop-length}
use Rattle.board.specs.declared.State.{State}
use Rattle.board.specs.declared.Reply.{Reply}
use Rattle.board.specs.Calls.{opening, fill_begin, fill_feed, fill_finish}
use Rattle.update_loop.specs.Loop.{index_after, chunk_count, first_chunks, chunks_of, fed_all, fill_stored}

-- no bytes make no chunk
count_none : (size : ℕ) → chunk_count size 0 ≡ 0
count_none zero = div-zero 0
count_none (suc size) = div-eq_of_lt (omega arith)

-- one chunk more than the bytes after the first
count_more : (size n : ℕ) → 0 < size → 0 < n → chunk_count size n ≡ suc (chunk_count size (n - size))
count_more size n some more =
    let first : chunk_count size n ≡ suc ((n + (size - 1) - size) / size) =
    div-eq-sub-div some (omega arith) ∙ add-one ((n + (size - 1) - size) / size) in
    first
    ∙ ap suc
    (elim (dec_le size n) [
      | yes long ↦ let e : n + (size - 1) - size ≡ n - size + (size - 1) = omega arith in rw e
      | no short ↦ div-eq_of_lt (omega arith) ∙ sym (div-eq_of_lt (omega arith))
    ])

module _ (size : ℕ) (file : List ℕ) where
  no_chunk : length file ≡ 0 → chunks_of size file ≡ []
  unfolding first_chunks
  no_chunk none = rw (none, count_none size)

  first_chunk : 0 < size → 0 < length file → chunks_of size file ≡ take size file ∷ chunks_of size (drop size file)
  unfolding first_chunks
  first_chunk some more = rw (length-drop size file, count_more size (length file) some more)

-- with a size of 0 nothing is fed, and after the last chunk nothing more
pub none_fed : (file : List ℕ) (state : State) (memory : List ℕ) (size : ℕ) → size ≡ 0
    → (state, memory) ≡ fed_all (chunks_of size file) state memory
unfolding first_chunks fed_all
none_fed file state memory size none = rw (none, div-zero)

pub all_fed : (file : List ℕ) (state : State) (memory : List ℕ) (size at : ℕ) → length file ≤ at
    → (state, memory) ≡ fed_all (chunks_of size (drop at file)) state memory
unfolding fed_all
all_fed file state memory size at over =
    let none : length (drop at file) ≡ 0 = length-drop at file ∙ omega arith in
    rw (no_chunk size (drop at file) none)

-- a turn of the loop: a chunk is lent by the index where it ends, and what is left begins there
module _ (file : List ℕ) (at size : ℕ) where
  pub chunk_some : 0 < size → at < length file → at < index_after file at size
  chunk_some some more =
      elim (dec_le (at + size) (length file)) [
        | yes room ↦ rw (le-leb (at + size) (length file)) (omega arith)
        | no short ↦ rw (lt-leb (at + size) (length file) (omega arith)) more
      ]

  chunk_lent : take (index_after file at size - at) (drop at file) ≡ take size (drop at file)
  chunk_lent =
      elim (dec_le (at + size) (length file)) [
        | yes room ↦ let e : at + size - at ≡ size = omega arith in rw (le-leb (at + size) (length file), e)
        | no short ↦
            rw (lt-leb (at + size) (length file) (omega arith))
            (take_all (length file - at) (drop at file) (rw length-drop (omega arith))
            ∙ sym (take_all size (drop at file) (rw length-drop (omega arith))))
      ]

  chunk_left : drop (index_after file at size) file ≡ drop size (drop at file)
  chunk_left =
      rw drop-drop
      (elim (dec_le (at + size) (length file)) [
        | yes room ↦ rw (le-leb (at + size) (length file))
        | no short ↦
            rw (lt-leb (at + size) (length file) (omega arith), drop-length file)
            (sym (drop_of_length-le file {i = at + size} (omega arith)))
      ])

  pub one_fed : (state : State) (memory : List ℕ) {end : ℕ} {fed : Reply × List ℕ} → 0 < size → at < length file
      → end ≡ index_after file at size → fed ≡ fill_feed state memory (take (end - at) (drop at file))
      → fed_all (chunks_of size (drop end file)) fed.0.state fed.1 ≡ fed_all (chunks_of size (drop at file)) state memory
  unfolding fed_all
  one_fed state memory some more e f =
      let left : 0 < length (drop at file) = rw length-drop (omega arith) in
      rw (first_chunk size (drop at file) some left, f, e, chunk_lent, chunk_left)

-- a fill of a new store
pub fill_stored_lem : (settings bitmap memory : List ℕ) (size : ℕ) {opened finished : Reply × List ℕ} {begun : Reply} {fed : State × List ℕ}
    → opened ≡ opening settings 1 memory
    → begun ≡ fill_begin opened.0.state (length opened.1) 1
    → fed ≡ fed_all (chunks_of size bitmap) begun.state opened.1
    → finished ≡ fill_finish fed.0 fed.1
    → finished ≡ fill_stored settings bitmap size memory
fill_stored_lem settings bitmap memory size o b f e = rw (e, f, b, o)
