-- A poll of a run under way, at any valid place: it is on time as read from outside, and what is read stays in step with the run.
-- Assumes nothing.
use mathlib.Core.Path.{◌≡◌, refl, sym, ap, ◌∙◌}
use mathlib.Core.Bool.{true, false≢true}
use mathlib.Core.List.{List, [], ◌∷◌, ◌++◌}
use Prim.Native.Nat.{ℕ, suc, ◌+◌, ◌-◌, ◌*◌, ◌≤◌, ◌<◌, max}
use native.Mathlib.Decide.{ℕ_discrete}
use native.Mathlib.Omega.{arith}
use borrow.Author.Tests.{ne_eqb}
use lib.Dec.{eqb}
use lib.ListN.{length, drop}
use Rattle.lists.specs.Lists.{overlay}
use Rattle.lists.proofs.Rules.{by_test}
use Rattle.panel.proofs.Panels.{size_of}
use Rattle.settings.specs.Settings.{Step, panel_of, start_count, start_steps, stop_count, stop_steps, settings_good, rows_in}
use Rattle.settings.specs.Steps.{waits_before, from_write}
use Rattle.settings.proofs.Accepted.{good-panel, all_starts, all_stops, length-starts, length_stops}
use Rattle.settings.proofs.Steps.{all_from}
use Rattle.run.specs.Clock.{passed_at}
use Rattle.run.specs.Place.{frame_number, next_position}
use Rattle.run.specs.Due.{run_frames, frame_due, due_at, due_of}
use Rattle.run.specs.Conditions.{place_valid, run_valid}
use Rattle.run.specs.Runs.{waited}
use Rattle.run.specs.declared.Tick.{Tick}
use Rattle.run.specs.declared.Passed.{Passed}
use Rattle.run.specs.declared.Position.{Position}
use Rattle.run.specs.declared.Position.TheVariants.{Start, Line, Stop}
use Rattle.run.specs.declared.Run.{Run}
use Rattle.run.proofs.Place.{frame_lt}
use Rattle.run.proofs.Due.{due_here}
use Rattle.run.proofs.Valid.{valid, AtStop, at-stop, valid-line}
use Rattle.run.proofs.Writes.{past_write}
use Rattle.poll.specs.Answers.{answer_number, put_out}
use Rattle.poll.specs.HandOut.{Outcome, outcome, send_write, send_line, hand_start, hand_stop, hand_out}
use Rattle.poll.specs.declared.Answer.TheVariants as answer
use Rattle.run.specs.declared.Phase.TheVariants.{Running}
use Rattle.theorems.specs.Order.{Thing, a_write, a_line, the_end, thing_bytes, thing_answer}
use Rattle.theorems.specs.Timing.{Item, frame_begins, out, next_thing, after_next, First, unknown, known, due_from, Watch, a_run, now_at, due_next, first_line, after_answer, OnTime}
use Rattle.theorems.specs.Past.{stop_items, after_lines, frames_left, line_items, items_from, first_at, watch_at, watch_of, observed_in}
use Rattle.theorems.proofs.Things.{after_write_lem}
use Rattle.theorems.proofs.Progress.{put-thing}
use Rattle.theorems.proofs.Items.{Next, write_next, none_next, write_due, none_due, frame_begins_lem, lines_begin, line_items_lem, first_next, frame_due_lem, later_due, stop_due, end_due}

-- a poll's outcome is on time, and what was observed stays what the fields of the run say
abbrev pub KeepsTime : (file : List ℕ) (slot : ℕ) (watch : Watch) (tick : Tick) (memory : List ℕ) → Outcome → Type 0
KeepsTime file slot watch tick memory (outcome given phase memory' out') =
    (answer_number given ≡ 0
    → OnTime file memory slot (now_at watch tick) (due_next 0 watch) watch.to_come given (put_out given out'))
    × (after_answer slot watch tick given ≡ observed_in file phase)

-- a thing is no wait answer
no_wait : (file memory : List ℕ) (slot : ℕ) (thing : Thing) (ms : ℕ) → thing_answer file memory slot thing ≡ answer.Wait ms → ⊥
no_wait file memory slot (a_write step) ms e = let z : ◌≡◌ {A = ℕ} 0 1 = cc in omega arith
no_wait file memory slot (a_line stage frame row) ms e = let z : ◌≡◌ {A = ℕ} 0 1 = cc in omega arith
no_wait file memory slot the_end ms e = let z : ◌≡◌ {A = ℕ} 0 1 = cc in omega arith

-- the next thing, handed out when it is due
on_time : (file memory output : List ℕ) (slot now due : ℕ) (items : List Item) (thing : Thing) → next_thing items ≡ thing ∷ [] → due ≤ now
    → OnTime file memory slot now due items (thing_answer file memory slot thing)
    (put_out (thing_answer file memory slot thing) (overlay (thing_bytes file memory slot thing) output))
on_time file memory output slot now due items thing next h =
    record {
      never_early = λ e. h;
      waits = λ ms e. absurd (no_wait file memory slot thing ms e);
      never_late = λ e. record { thing = thing; next = next; answers = refl; puts = put-thing file memory slot thing output };
    }

abbrev watch : (last : Tick) (passed handed : ℕ) (first : First) (items : List Item) → Watch
watch last passed handed first items = record { last = last; passed = passed; handed = handed; first = first; to_come = items }

same_watch : (last : Tick) (passed handed : ℕ) {f g : First} {items rest : List Item} → f ≡ g → items ≡ rest
    → watch last passed handed f items ≡ watch last passed handed g rest
same_watch last passed handed e q = cc

-- ---- a poll of a run under way

module _ (file : List ℕ) (n : ℕ) (run : Run) (tick : Tick) (memory output : List ℕ)
    (good : settings_good file ≡ true) (ok : run_valid file n run ≡ true) where
  abbrev h : ℕ
  h = rows_in file

  abbrev N : ℕ
  N = run_frames file

  abbrev handed : ℕ
  handed = run.handed.0

  abbrev F : ℕ
  F = run.first.0

  frames : 0 < N
  frames = (size_of (panel_of file) (good-panel file good)).frames_some

  rows : 0 < h
  rows = (size_of (panel_of file) (good-panel file good)).high

  -- ---- when the next thing is due: as the definition on the run's fields says, or at once where that is past

  start_due : (k : ℕ) (steps : List Step) → from_write (drop k (start_steps file)) ≡ steps
      → due_from 0 unknown handed (items_from file (Start k)) ≡ handed + waits_before (drop k (start_steps file))
  start_due k [] found =
      let at = drop k (start_steps file) in
      let rest : List Item = frames_left file 0 ++ after_lines file in
      let e : h - 0 ≡ suc (h - (0 + 1)) = omega (arith, rows) in
      none_due rest 0 unknown at (all_from k (start_steps file) (all_starts file good)) found handed
      ∙ rw (lines_begin h N (after_lines file) frames, e) (omega arith)
  start_due k (step ∷ more) found =
      write_due (frames_left file 0 ++ after_lines file) 0 unknown (drop k (start_steps file)) step more
      (all_from k (start_steps file) (all_starts file good)) found handed

  due_at_lem : (position : Position) → run.next ≡ position
      → due_from 0 (first_at F position) handed (items_from file position) ≡ max handed (due_at file run position)
  due_at_lem (Start k) at = omega (arith, start_due k (from_write (drop k (start_steps file))) refl)
  due_at_lem (Line stage frame row) at =
      let line = valid-line file n run ok stage frame row at in
      elim (ℕ_discrete row 0) [
        | yes z ↦
            let i = frame_number N stage frame in
            let left : 0 < 4 * N - i = omega (arith, frame_lt N stage frame line.high line.frames) in
            let begins = frame_begins_lem h N (after_lines file) stage frame line.low line.high line.frames in
            let is : due_from 0 (known F) handed (frame_begins i ∷ line_items file stage frame 0) ≡ max handed (F + 30 * (i - 0)) =
            ap (due_from 0 (known F) handed) (sym begins) ∙ frame_due_lem 0 F handed h N i (4 * N - i) (after_lines file) rows left in
            rw z (omega (arith, is))
        | no d ↦
            let left : 0 < h - row = omega (arith, line.rows) in
            rw (ne_eqb row 0 d) (omega (arith, later_due 0 F handed stage frame row (h - row) (frames_left file (frame_number N stage frame + 1) ++ after_lines file) left))
      ]
  due_at_lem (Stop k) at =
      let there : AtStop file run k = at-stop file run k (sym (ap (place_valid file run) at) ∙ (valid file n run ok).place) in
      elim (ℕ_discrete k 0) [
        | yes z ↦ rw z (omega (arith, end_due 0 F (4 * N) (stop_steps file) (all_stops file good) handed))
        | no d ↦
            let by : frame_due F (4 * N - 0) ≤ handed = rw (ne_eqb k 0 d) at there.due in
            let steps = all_from k (stop_steps file) (all_stops file good) in
            rw (ne_eqb k 0 d) (omega (arith, by, stop_due 0 (known F) (drop k (stop_steps file)) steps handed))
      ]

  -- ---- what is handed out at the moment of the poll

  abbrev moment : Passed
  moment = record { 0 = passed_at run.passed run.last tick }

  by_now : handed ≤ moment.0
  by_now = let order = (valid file n run ok).order in omega (arith, order)

  due_by : (position : Position) → run.next ≡ position → due_of file run ≤ moment.0 → due_next 0 (watch_at file run position) ≤ moment.0
  due_by position at due = omega (arith, due_at_lem position at, due_here file run at, by_now)

  abbrev Keeps : Position → Outcome → Type 0
  Keeps position = KeepsTime file run.slot (watch_at file run position) tick memory

  -- the next thing from each place
  write_from : (k : ℕ) (step : Step) (more : List Step) → from_write (drop k (start_steps file)) ≡ step ∷ more
      → Next (items_from file (Start k)) (a_write step) (items_from file (Start (start_count file - length more)))
  write_from k step more found =
      let after = rw (length-starts file good) at (after_write_lem (start_steps file) k step more found) in
      let rest : List Item = frames_left file 0 ++ after_lines file in
      rw after (write_next rest (drop k (start_steps file)) step more (all_from k (start_steps file) (all_starts file good)) found)

  line_from : (stage frame row : ℕ) → 1 ≤ stage → stage ≤ 4 → frame < N → row < h
      → Next (line_items file stage frame row) (a_line stage frame row) (items_from file (next_position h N stage frame row))
  line_from stage frame row low high f r =
      let e = line_items_lem file stage frame row low high f r in record { next = ap next_thing e; after = ap after_next e }

  line_next : (stage frame row : ℕ) → 1 ≤ stage → stage ≤ 4 → frame < N → row < h
      → Next (items_from file (Line stage frame row)) (a_line stage frame row) (items_from file (next_position h N stage frame row))
  line_next stage frame row low high f r =
      let e = line_from stage frame row low high f r in
      by_test (λ items. Next items (a_line stage frame row) (items_from file (next_position h N stage frame row))) (eqb row 0)
      (frame_begins (frame_number N stage frame) ∷ line_items file stage frame row) (line_items file stage frame row)
      (λ z. record { next = e.next; after = e.after })
      (λ z. e)

  first_from : (k : ℕ) → from_write (drop k (start_steps file)) ≡ []
      → Next (items_from file (Start k)) (a_line 1 0 0) (items_from file (next_position h N 1 0 0))
  first_from k found =
      let e = line_from 1 0 0 (omega arith) (omega arith) frames rows in
      let begins : Next (frames_left file 0 ++ after_lines file) (a_line 1 0 0) (items_from file (next_position h N 1 0 0)) =
      rw (lines_begin h N (after_lines file) frames) (record { next = e.next; after = e.after }) in
      none_next (frames_left file 0 ++ after_lines file) (drop k (start_steps file))
      (all_from k (start_steps file) (all_starts file good)) found begins

  stop_from : (k : ℕ) {thing : Thing} {rest : List Item} → Next (stop_items file k) thing rest → Next (items_from file (Stop k)) thing rest
  stop_from k {thing} {rest} e =
      by_test (λ items. Next items thing rest) (eqb k 0) (frame_begins (4 * N) ∷ stop_items file k) (stop_items file k)
      (λ z. record { next = e.next; after = e.after })
      (λ z. e)

  stop_write : (k : ℕ) (step : Step) (more : List Step) → from_write (drop k (stop_steps file)) ≡ step ∷ more
      → Next (items_from file (Stop k)) (a_write step) (items_from file (Stop (stop_count file - length more)))
  stop_write k step more found =
      let m = stop_count file - length more in
      let past = rw (length_stops file good) at (past_write (stop_steps file) more step k (all_stops file good) found) in
      let after = rw (length_stops file good) at (after_write_lem (stop_steps file) k step more found) in
      rw (ne_eqb m 0 past.0, after)
      (stop_from k
      (write_next (out the_end ∷ []) (drop k (stop_steps file)) step more (all_from k (stop_steps file) (all_stops file good)) found))

  stop_end : (k : ℕ) → from_write (drop k (stop_steps file)) ≡ [] → Next (items_from file (Stop k)) the_end []
  stop_end k found =
      stop_from k
      (none_next (out the_end ∷ []) (drop k (stop_steps file)) (all_from k (stop_steps file) (all_stops file good)) found
      (record { next = refl; after = refl }))

  module _ (due : due_of file run ≤ moment.0) where
    sends_write : (position next : Position) → run.next ≡ position → (step : Step) → first_at F position ≡ first_at F next
        → Next (items_from file position) (a_write step) (items_from file next)
        → Keeps position (send_write file run tick moment memory output step next)
    sends_write position next at step first up = (
      λ e. on_time file memory output run.slot moment.0 _ (items_from file position) (a_write step) up.next (due_by position at due),
      ap (a_run run.slot) (same_watch tick moment.0 moment.0 first up.after),
    )

    sends_line : (position : Position) → run.next ≡ position → (first : Passed) (stage frame row : ℕ)
        → first_line (first_at F position) moment.0 ≡ known first.0
        → Next (items_from file position) (a_line stage frame row) (items_from file (next_position h N stage frame row))
        → Keeps position (send_line file run tick moment memory output first stage frame row)
    sends_line position at first stage frame row is up = (
      λ e.
          on_time file memory output run.slot moment.0 _ (items_from file position) (a_line stage frame row) up.next
          (due_by position at due),
      ap (a_run run.slot)
          (same_watch tick moment.0 moment.0 (is ∙ sym (first_next first.0 h N stage frame row)) up.after),
    )

    start-hands : (k : ℕ) (steps : List Step) → run.next ≡ Start k → from_write (drop k (start_steps file)) ≡ steps
        → Keeps (Start k) (hand_start file run tick moment memory output steps)
    start-hands k [] at found = sends_line (Start k) at moment 1 0 0 refl (first_from k found)
    start-hands k (step ∷ more) at found =
        sends_write (Start k) (Start (start_count file - length more)) at step refl (write_from k step more found)

    stop-hands : (k : ℕ) (steps : List Step) → run.next ≡ Stop k → from_write (drop k (stop_steps file)) ≡ steps
        → Keeps (Stop k) (hand_stop file run tick moment memory output steps)
    stop-hands k [] at found =
        let up = stop_end k found in (
          λ e. on_time file memory output run.slot moment.0 _ (items_from file (Stop k)) the_end up.next (due_by (Stop k) at due),
          refl,
        )
    stop-hands k (step ∷ more) at found =
        sends_write (Stop k) (Stop (stop_count file - length more)) at step refl (stop_write k step more found)

    hands : (position : Position) → run.next ≡ position → Keeps position (hand_out file run tick moment memory output position)
    hands (Start k) at = start-hands k (from_write (drop k (start_steps file))) at refl
    hands (Line stage frame row) at =
        let line = valid-line file n run ok stage frame row at in
        sends_line (Line stage frame row) at run.first stage frame row refl (line_next stage frame row line.low line.high line.frames line.rows)
    hands (Stop k) at = stop-hands k (from_write (drop k (stop_steps file))) at refl

  -- before the due moment: exactly what is still to go
  pub early_keeps : moment.0 < due_of file run
      → Keeps run.next (outcome (answer.Wait (due_of file run - moment.0)) (Running (waited run tick moment)) memory output)
  early_keeps early =
      let is = due_at_lem run.next refl in
      let here = due_here file run refl in
      let now = by_now in (
        λ e.
            record {
              never_early = λ f. absurd (false≢true f);
              waits =
                  λ ms q.
                  let z : due_of file run - moment.0 ≡ ms = cc in
                  record {
                    before = omega (arith, is, here, now);
                    exact = omega (arith, is, here, now);
                    some = omega (arith, is, here, now);
                  };
              never_late = λ late. absurd (omega (arith, is, here, now));
            },
        refl,
      )

  -- from the due moment on: the next thing
  pub late_keeps : due_of file run ≤ moment.0 → KeepsTime file run.slot (watch_of file run) tick memory (hand_out file run tick moment memory output run.next)
  late_keeps due = hands due run.next refl
