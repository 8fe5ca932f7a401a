-- Calls on a state that breaks one of its conditions: they earn 13, whatever else they bring. The empty state is such a state, and
-- whoever was accepted had another.
-- Assumes nothing.
use mathlib.Core.Path.{◌≡◌, refl, sym, ap, ◌∙◌}
use mathlib.Core.Bool.{Bool, true, false, false≢true}
use mathlib.Core.List.{List}
use Prim.Native.Nat.{ℕ}
use lib.Dec.{eqb}
use Rattle.lists.proofs.Rules.{broken}
use Rattle.store.specs.Conditions.{state_rules, keeps_rules}
use Rattle.board.specs.State.{state_valid, empty_state}
use Rattle.board.specs.Calls.{region_upload, bitmap_upload, fill_begin, fill_feed, fill_finish, fill_cancel, starting, abandoning, polled, bitmap_write, slot_summary}
use Rattle.board.specs.History.{Call, upload_region, upload_bitmap, begin_fill, feed_fill, finish_fill, cancel_fill, start, poll, abandon, write_bitmap, summary, number_given, is_accepted, given_by, call_on}
use Rattle.board.specs.declared.State.{State}

pub invalid_refused : (state : State) (memory : List ℕ) (call : Call) → state_valid state ≡ false
    → number_given (given_by (call_on state memory call).seen) ≡ 13
unfolding region_upload bitmap_upload fill_begin fill_feed fill_finish fill_cancel starting abandoning polled bitmap_write slot_summary
invalid_refused state memory (upload_region slot x y width height payload) e = rw e
invalid_refused state memory (upload_bitmap slot file) e = rw e
invalid_refused state memory (begin_fill slot) e = rw e
invalid_refused state memory (feed_fill chunk) e = rw e
invalid_refused state memory finish_fill e = rw e
invalid_refused state memory cancel_fill e = rw e
invalid_refused state memory (start slot tick) e = rw e
invalid_refused state memory (poll tick out) e = rw e
invalid_refused state memory abandon e = rw e
invalid_refused state memory (write_bitmap slot out) e = rw e
invalid_refused state memory (summary slot) e = rw e

-- the empty state, which has no slots, earns 13 everywhere
pub empty_refused : (memory : List ℕ) (call : Call) → number_given (given_by (call_on empty_state memory call).seen) ≡ 13
unfolding keeps_rules
empty_refused memory call = invalid_refused empty_state memory call (broken 2 (state_rules empty_state.settings empty_state.store) refl)

pub was_valid : (state : State) (memory : List ℕ) (call : Call) → is_accepted (given_by (call_on state memory call).seen) ≡ true
    → state_valid state ≡ true
was_valid state memory call e = by_validity (state_valid state) refl
  where
    by_validity : (b : Bool) → state_valid state ≡ b → b ≡ true
    by_validity true q = refl
    by_validity false q =
        absurd (false≢true (sym (ap (λ (n : ℕ). eqb n 0) (invalid_refused state memory call q)) ∙ e))
