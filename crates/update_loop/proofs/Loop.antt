-- The index after some bytes, one poll of the loop, and the loop from its start to its end. Assumes nothing.
use Rattle.std.proofs.Common.{◌≡◌, ℕ, zero, suc, ◌+◌, ◌-◌, ◌%◌, ◌^◌, ◌<◌, ◌≤◌, List, ◌++◌, length, take, drop, sym, refl, ap, ◌∙◌, append-nil, arith, length-drop, le-leb}
use borrow.Author.Tests.{lt-leb}
use lib.Seq.{take-length, drop-length}
use Rattle.poll.specs.declared.Answer.{Answer}
use Rattle.poll.specs.declared.Answer.TheVariants.{Refused, Write, Line, Wait, Done}
use Rattle.board.specs.declared.State.{State}
use Rattle.board.specs.declared.Reply.{Reply}
use Rattle.board.specs.Calls.{opening, bitmap_upload, starting, Polling, polled}
use Rattle.update_loop.specs.Loop.{Showing, showing, tick_of, enough, index_after, go_on, after_poll, poll_of, ended, shown, slot_shown, bitmap_stored}

module _ (bytes : List ℕ) (at n : ℕ) where
  -- where the bytes end earlier, and where they do not
  pub index_at_end : length bytes < at + n → length bytes ≡ index_after bytes at n
  index_at_end short = rw lt-leb

  pub index_within : at + n ≤ length bytes → at + n ≡ index_after bytes at n
  index_within room = rw le-leb

-- the start, and the end with no poll left
pub from_start_lem : (state : State) (memory bus : List ℕ) {started : Reply} → started ≡ starting state (length memory) 1 (tick_of 0)
    → shown enough (showing started.state 0 memory bus 0) ≡ slot_shown state memory bus
from_start_lem state memory bus e = ap (λ r. shown enough (showing r.state 0 memory bus 0)) e

pub no_poll_left : (left : ℕ) (s : Showing) → left ≡ 0 → ended 0 s ≡ shown left s
unfolding shown
no_poll_left zero s e = refl
no_poll_left (suc left) s e = absurd (omega arith)

-- one poll more
one_more : (left : ℕ) (s : Showing) → 0 < left → shown left s ≡ go_on (shown (left - 1)) (after_poll s (poll_of s)) (poll_of s).answer
unfolding shown
one_more zero s some = absurd (omega arith)
one_more (suc left) s some =
    let e : suc left - 1 ≡ left = omega arith in
    rw e

-- the bus from index `at` on, as it is lent to a poll; and the bus as it comes back
part_lent : (bus : List ℕ) (at : ℕ) → take (length bus - at) (drop at bus) ≡ drop at bus
part_lent bus at = rw (← length-drop at bus, take-length)

abbrev back : (bus : List ℕ) (at : ℕ) (out : List ℕ) → List ℕ
back bus at out = take at bus ++ (out ++ drop (length bus - at) (drop at bus))

part_back : (bus : List ℕ) (at : ℕ) (out : List ℕ) → back bus at out ≡ take at bus ++ out
part_back bus at out = rw (← length-drop at bus, drop-length, append-nil)

-- a poll with some polls left
module _ (left : ℕ) (state : State) (tick : ℕ) (memory bus : List ℕ) (at : ℕ) (some : 0 < left) {p : Polling}
    (e : p ≡ polled state (tick_of tick) memory (take (length bus - at) (drop at bus))) where
  one_poll : go_on (shown (left - 1)) (showing p.state tick p.memory (back bus at p.out) at) p.answer
      ≡ shown left (showing state tick memory bus at)
  one_poll =
      ap (λ bytes. go_on (shown (left - 1)) (showing p.state tick p.memory bytes at) p.answer) (part_back bus at p.out)
      ∙ ap (λ q. go_on (shown (left - 1)) (showing q.state tick q.memory (take at bus ++ q.out) at) q.answer)
      (e ∙ ap (polled state (tick_of tick) memory) (part_lent bus at))
      ∙ sym (one_more left (showing state tick memory bus at) some)

  -- the loop by its answer
  by_answer : {answer : Answer} → p.answer ≡ answer
      → go_on (shown (left - 1)) (showing p.state tick p.memory (back bus at p.out) at) answer
      ≡ shown left (showing state tick memory bus at)
  by_answer a = ap (go_on (shown (left - 1)) (showing p.state tick p.memory (back bus at p.out) at)) (sym a) ∙ one_poll

  pub after_write_lem : (n : ℕ) {tick' at' : ℕ} → p.answer ≡ Write n → tick' ≡ tick → at' ≡ index_after (back bus at p.out) at n
      → shown (left - 1) (showing p.state tick' p.memory (back bus at p.out) at')
      ≡ shown left (showing state tick memory bus at)
  after_write_lem n a t i = rw (t, i) (by_answer a)

  pub after_line : (n : ℕ) {tick' at' : ℕ} → p.answer ≡ Line n → tick' ≡ tick → at' ≡ index_after (back bus at p.out) at n
      → shown (left - 1) (showing p.state tick' p.memory (back bus at p.out) at')
      ≡ shown left (showing state tick memory bus at)
  after_line n a t i = rw (t, i) (by_answer a)

  pub after_wait : (ms : ℕ) {tick' at' : ℕ} → p.answer ≡ Wait ms → tick' ≡ (tick + ms) % 2 ^ 32 → at' ≡ at
      → shown (left - 1) (showing p.state tick' p.memory (back bus at p.out) at')
      ≡ shown left (showing state tick memory bus at)
  after_wait ms a t i = rw (t, i) (by_answer a)

  pub after_done_lem : p.answer ≡ Done → (at, p.memory, back bus at p.out) ≡ shown left (showing state tick memory bus at)
  after_done_lem a = by_answer a

  pub after_refusal : (number : ℕ) → p.answer ≡ Refused number
      → (0, p.memory, back bus at p.out) ≡ shown left (showing state tick memory bus at)
  after_refusal number a = by_answer a

-- an upload to a new store
pub bitmap_stored_lem : (settings bitmap memory : List ℕ) {opened uploaded : Reply × List ℕ} → opened ≡ opening settings 1 memory
    → uploaded ≡ bitmap_upload opened.0.state opened.1 1 bitmap → uploaded ≡ bitmap_stored settings bitmap memory
bitmap_stored_lem settings bitmap memory o u = u ∙ ap (λ r. bitmap_upload r.0.state r.1 1 bitmap) o
