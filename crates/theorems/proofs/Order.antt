-- What a run hands out is the first of all that is to come, and the others are still to come.
-- Assumes nothing.
use mathlib.Core.Path.{◌≡◌, refl, sym, ap, ◌∙◌}
use mathlib.Core.Bool.{true}
use mathlib.Core.List.{List, [], ◌∷◌, ◌++◌}
use Prim.Native.Nat.{ℕ, ◌+◌, ◌-◌, ◌<◌}
use lib.ListN.{drop}
use Rattle.panel.proofs.Panels.{size_of}
use Rattle.settings.specs.Settings.{Step, panel_of, start_steps, stop_steps, settings_good, rows_in}
use Rattle.settings.specs.Steps.{from_write}
use Rattle.settings.proofs.Accepted.{good-panel, all_starts, all_stops, length-starts, length_stops}
use Rattle.settings.proofs.Steps.{all_from}
use Rattle.run.specs.Due.{run_frames}
use Rattle.run.specs.Conditions.{run_valid}
use Rattle.run.specs.declared.Tick.{Tick}
use Rattle.run.specs.declared.Passed.{Passed}
use Rattle.run.specs.declared.Position.{Position}
use Rattle.run.specs.declared.Position.TheVariants.{Start, Line, Stop}
use Rattle.run.specs.declared.Run.{Run}
use Rattle.run.proofs.Valid.{valid-line}
use Rattle.poll.specs.HandOut.{Outcome, hand_start, hand_stop, hand_out}
use Rattle.theorems.specs.Order.{Thing, a_write, a_line, the_end, writes_of, stages_from, things_from, InOrder}
use Rattle.theorems.proofs.Things.{writes_from, first_write, after_write_lem, lines_begin, line_first}

-- ---- a poll of a run under way

module _ (file : List ℕ) (n : ℕ) (run : Run) (tick : Tick) (memory out : List ℕ)
    (good : settings_good file ≡ true) (valid : run_valid file n run ≡ true) where
  abbrev Ordered : Position → Outcome → Type 0
  Ordered position = InOrder file memory out run.slot (things_from file position)

  abbrev stops : List Thing
  stops = writes_of (stop_steps file) ++ (the_end ∷ [])

  abbrev lines : List Thing
  lines = stages_from (rows_in file) (run_frames file) 1 4 ++ stops

  module _ (moment : Passed) where
    -- with no start write left the very first line goes out
    start-hands : (k : ℕ) (steps : List Step) → from_write (drop k (start_steps file)) ≡ steps
        → Ordered (Start k) (hand_start file run tick moment memory out steps)
    start-hands k [] found =
        let size = size_of (panel_of file) (good-panel file good) in
        let frames : 0 < run_frames file = size.frames_some in
        record {
          thing = a_line 1 0 0;
          first =
              ap (λ (l : List Thing). l ++ lines) (writes_from (drop k (start_steps file)) ∙ ap writes_of found)
              ∙ lines_begin (rows_in file) (run_frames file) stops frames
              ∙ line_first file 1 0 0 frames size.high;
          answers = refl;
          puts = refl;
        }
    start-hands k (step ∷ rest) found =
        let after = rw (length-starts file good) at (after_write_lem (start_steps file) k step rest found) in
        record {
          thing = a_write step;
          first =
              ap (λ (l : List Thing). l ++ lines)
              (first_write (drop k (start_steps file)) step rest (all_from k (start_steps file) (all_starts file good)) found)
              ∙ ap (λ (l : List Step). a_write step ∷ (writes_of l ++ lines)) (sym after);
          answers = refl;
          puts = refl;
        }

    -- with no stop write left the run is done
    stop-hands : (k : ℕ) (steps : List Step) → from_write (drop k (stop_steps file)) ≡ steps
        → Ordered (Stop k) (hand_stop file run tick moment memory out steps)
    stop-hands k [] found =
        record {
          thing = the_end;
          first = ap (λ (l : List Thing). l ++ (the_end ∷ [])) (writes_from (drop k (stop_steps file)) ∙ ap writes_of found);
          answers = refl;
          puts = refl;
        }
    stop-hands k (step ∷ rest) found =
        let after = rw (length_stops file good) at (after_write_lem (stop_steps file) k step rest found) in
        record {
          thing = a_write step;
          first =
              ap (λ (l : List Thing). l ++ (the_end ∷ []))
              (first_write (drop k (stop_steps file)) step rest (all_from k (stop_steps file) (all_stops file good)) found)
              ∙ ap (λ (l : List Step). a_write step ∷ (writes_of l ++ (the_end ∷ []))) (sym after);
          answers = refl;
          puts = refl;
        }

    hands_first : (position : Position) → run.next ≡ position → Ordered position (hand_out file run tick moment memory out position)
    hands_first (Start k) at = start-hands k (from_write (drop k (start_steps file))) refl
    hands_first (Line stage frame row) at =
        let line = valid-line file n run valid stage frame row at in
        record {
          thing = a_line stage frame row;
          first = line_first file stage frame row line.frames line.rows;
          answers = refl;
          puts = refl;
        }
    hands_first (Stop k) at = stop-hands k (from_write (drop k (stop_steps file))) refl

    pub in_order_lem : InOrder file memory out run.slot (things_from file run.next) (hand_out file run tick moment memory out run.next)
    in_order_lem = hands_first run.next refl
