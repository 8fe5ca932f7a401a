-- What start begins keeps the conditions on a run, and so does each thing that an accepted poll makes of a run: a wait answer, a
-- start write, a line, a stop write.
-- Assumes nothing.
use Rattle.std.proofs.Common.{◌≡◌, ℕ, ◌+◌, ◌-◌, ◌*◌, ◌<◌, ◌≤◌, true, cond, eqb, List, ◌∷◌, length, drop, sym, refl, ◌∙◌, arith, ne_eqb, le-leb}
use native.Mathlib.Decide.{ℕ_discrete}
use Rattle.panel.specs.Panels.{rows_of}
use Rattle.panel.proofs.Panels.{size_of}
use Rattle.settings.specs.Settings.{Step, panel_of, start_count, start_steps, stop_count, stop_steps, settings_good}
use Rattle.settings.specs.Steps.{from_write}
use Rattle.settings.proofs.Accepted.{good-panel, length-starts, length_stops, all_starts, all_stops}
use Rattle.run.specs.Place.{frame_number, next_position}
use Rattle.run.specs.Due.{run_frames, frame_due, due_of}
use Rattle.run.specs.Conditions.{place_valid, run_valid}
use Rattle.run.specs.Runs.{begun, waited, moved}
use Rattle.run.specs.declared.Tick.{Tick}
use Rattle.run.specs.declared.Passed.{Passed}
use Rattle.run.specs.declared.Position.{Position}
use Rattle.run.specs.declared.Position.TheVariants.{Start, Line, Stop}
use Rattle.run.specs.declared.Run.{Run}
use Rattle.run.proofs.Place.{next_cases, stage-number, end_number}
use Rattle.run.proofs.Due.{due_here, due_frame, due_later}
use Rattle.run.proofs.Valid.{valid, placed, start_first, start_later, line_ranged, stop_ranged, valid-start, valid-line}
use Rattle.run.proofs.Writes.{past_write}

-- a run that was just started
pub begun-valid : (file : List ℕ) (n slot : ℕ) (tick : Tick) → 1 ≤ slot → slot ≤ n → run_valid file n (begun slot tick) ≡ true
begun-valid file n slot tick low high =
    let run = begun slot tick in
    sym (placed file n run low high (omega arith)) ∙ sym (start_first file run 0 refl (omega arith) refl)

-- a wait answer
same_place : (file : List ℕ) (run : Run) (tick : Tick) (moment : Passed) (place : Position)
    → place_valid file (waited run tick moment) place ≡ place_valid file run place
same_place file run tick moment (Start k) = refl
same_place file run tick moment (Line stage frame row) = refl
same_place file run tick moment (Stop k) = refl

module _ (file : List ℕ) (n : ℕ) (run : Run) (e : run_valid file n run ≡ true) (tick : Tick) (moment : Passed) where
  pub waited-valid : run.passed.0 ≤ moment.0 → run_valid file n (waited run tick moment) ≡ true
  waited-valid h =
      let facts = valid file n run e in
      let order : run.handed.0 ≤ moment.0 = omega (arith, facts.order) in
      sym (placed file n (waited run tick moment) facts.low facts.high order)
      ∙ same_place file run tick moment run.next
      ∙ facts.place

  -- something was handed out: what comes next must be a valid place
  moved-valid : (first : Passed) (next : Position) → place_valid file (moved run tick moment first next) next ≡ true
      → run_valid file n (moved run tick moment first next) ≡ true
  moved-valid first next place =
      let facts = valid file n run e in
      sym (placed file n (moved run tick moment first next) facts.low facts.high (omega arith)) ∙ place

  -- the next start write from step k on, after which `rest` is left
  pub start_written : (k : ℕ) (step : Step) (rest : List Step) → settings_good file ≡ true → run.next ≡ Start k
      → from_write (drop k (start_steps file)) ≡ step ∷ rest
      → run_valid file n (moved run tick moment run.first (Start (start_count file - length rest))) ≡ true
  start_written k step rest good at found =
      let m = start_count file - length rest in
      let past = rw (length-starts file good) at (past_write (start_steps file) rest step k (all_starts file good) found) in
      let unknown = (valid-start file n run e k at).unknown in
      moved-valid run.first (Start m)
      (start_later file (moved run tick moment run.first (Start m)) m past.0 (omega arith) past.1 unknown)

  -- the next stop write from step k on, no earlier than it is due
  pub stop_written : (k : ℕ) (step : Step) (rest : List Step) → settings_good file ≡ true → run.next ≡ Stop k
      → from_write (drop k (stop_steps file)) ≡ step ∷ rest → due_of file run ≤ moment.0
      → run_valid file n (moved run tick moment run.first (Stop (stop_count file - length rest))) ≡ true
  stop_written k step rest good at found due =
      let m = stop_count file - length rest in
      let past = rw (length_stops file good) at (past_write (stop_steps file) rest step k (all_stops file good) found) in
      let by : frame_due run.first.0 (4 * run_frames file - cond (eqb m 0) 1 0) ≤ moment.0 = omega (arith, due_here file run at) in
      moved-valid run.first (Stop m)
      (stop_ranged file (moved run tick moment run.first (Stop m)) m (omega arith) past.1 ∙ le-leb _ _ by)

  -- a line of a frame, no earlier than that frame is due
  line-moved : (first : Passed) (stage frame row : ℕ) → 1 ≤ stage → stage ≤ 4 → frame < run_frames file → row < rows_of (panel_of file)
      → frame_due first.0 (frame_number (run_frames file) stage frame) ≤ moment.0
      → run_valid file n (moved run tick moment first (next_position (rows_of (panel_of file)) (run_frames file) stage frame row)) ≡ true
  line-moved first stage frame row low high f r due =
      let N = run_frames file in
      let h = rows_of (panel_of file) in
      let i = frame_number N stage frame in
      let after : Position → Run = λ p. moved run tick moment first p in
      let some : 0 < h = omega arith in
      next_cases (λ p. run_valid file n (after p) ≡ true) h N stage frame row
      (λ rows.
      let place = Line stage frame (row + 1) in
      let later : (row + 1 ≡ 0 → ⊥) = λ z. omega arith in
      let by : frame_due first.0 (i - cond (eqb (row + 1) 0) 1 0) ≤ moment.0 = omega arith in
      moved-valid first place (line_ranged file (after place) stage frame (row + 1) low high f rows (omega arith) ∙ le-leb _ _ by))
      (λ frames.
      let place = Line stage (frame + 1) 0 in
      let by : frame_due first.0 (frame_number N stage (frame + 1) - 1) ≤ moment.0 = omega arith in
      moved-valid first place (line_ranged file (after place) stage (frame + 1) 0 low high frames some (omega arith) ∙ le-leb _ _ by))
      (λ last four.
      let place = Line (stage + 1) 0 0 in
      let full : frame + 1 ≡ N = omega arith in
      let number = stage-number N stage frame low full in
      let by : frame_due first.0 (frame_number N (stage + 1) 0 - 1) ≤ moment.0 = omega (arith, number) in
      moved-valid first place
      (line_ranged file (after place) (stage + 1) 0 0 (omega arith) (omega arith) (omega arith) some (omega (arith, number)) ∙ le-leb _ _ by))
      (λ last four.
      let full : frame + 1 ≡ N = omega arith in
      let stage4 : stage ≡ 4 = omega arith in
      let number = end_number N stage frame stage4 full in
      let by : frame_due first.0 (4 * N - 1) ≤ moment.0 = omega (arith, number) in
      moved-valid first (Stop 0) (stop_ranged file (after (Stop 0)) 0 (omega arith) refl ∙ le-leb _ _ by))

  -- frame 0's first line: its moment is F
  pub first_line_lem : settings_good file ≡ true
      → run_valid file n (moved run tick moment moment (next_position (rows_of (panel_of file)) (run_frames file) 1 0 0)) ≡ true
  first_line_lem good =
      let size = size_of (panel_of file) (good-panel file good) in
      line-moved moment 1 0 0 (omega arith) (omega arith) size.frames_some size.high (omega arith)

  -- any other line, no earlier than it is due
  pub line-handed : (stage frame row : ℕ) → run.next ≡ Line stage frame row → due_of file run ≤ moment.0
      → run_valid file n (moved run tick moment run.first (next_position (rows_of (panel_of file)) (run_frames file) stage frame row)) ≡ true
  line-handed stage frame row at due =
      let line = valid-line file n run e stage frame row at in
      let i = frame_number (run_frames file) stage frame in
      let by : frame_due run.first.0 i ≤ moment.0 =
      elim (ℕ_discrete row 0) [
        | yes z ↦ omega (arith, due_here file run at, due_frame file run stage frame row z)
        | no d ↦
            let here : frame_due run.first.0 (i - 0) ≤ run.handed.0 = rw (ne_eqb row 0 d) at line.due in
            omega (arith, due_here file run at, due_later file run stage frame row d)
      ] in
      line-moved run.first stage frame row line.low line.high line.frames line.rows by
