-- What the conditions on a run say, place by place, and back.
-- Assumes nothing.
use Rattle.std.proofs.Common.{◌≡◌, ℕ, zero, suc, ◌+◌, ◌-◌, ◌*◌, ◌<◌, ◌≤◌, Bool, true, false, cond, not, ◌||◌, eqb, leb, List, Option, get_or, drop, sym, refl, ap, ◌∙◌, arith, ltb-true, lt-ltb, eq-eqb, ne_eqb, eqb-true, le-leb, leb-true}
use mathlib.Core.Bool.{and-true}
use Rattle.lists.proofs.Rules.{broken, holds, none, keep, all_kept, decides}
use Rattle.panel.specs.Panels.{rows_of}
use Rattle.settings.specs.Settings.{Step, write, wait, malformed, step_of, steps_of, rest_of, panel_of, start_count, start_steps, stop_count, stop_steps}
use Rattle.settings.specs.Facts.{kind_of}
use Rattle.settings.specs.declared.Kind.{Kind}
use Rattle.run.specs.Place.{frame_number}
use Rattle.run.specs.Due.{run_frames, frame_due}
use Rattle.run.specs.Conditions.{is_write, after_write, start_place_rules, line_place_rules, stop_place_rules, place_valid, run_rules, run_valid}
use Rattle.run.specs.Facts.{kind_is_write, Ready}
use Rattle.run.specs.declared.Passed.{Passed}
use Rattle.run.specs.declared.Position.{Position}
use Rattle.run.specs.declared.Position.TheVariants.{Start, Line, Stop}
use Rattle.run.specs.declared.Run.{Run}

-- ---- right after a write

kind_is_write_lem : (step : Step) → kind_is_write (kind_of step) ≡ is_write step
kind_is_write_lem (write r d) = refl
kind_is_write_lem (wait ms) = refl
kind_is_write_lem malformed = refl

-- step k of n is the one that stands after the first k
step_at : (panel k n : ℕ) (s : List ℕ) → k < n → get_or (steps_of panel n s) k malformed ≡ step_of panel (rest_of panel k s)
step_at panel k zero s h = absurd (omega arith)
step_at panel zero (suc n) s h = refl
step_at panel (suc k) (suc n) s h = step_at panel k n _ (omega arith)

pub first_step : (steps : List Step) (k : ℕ) → k ≡ 0 → true ≡ after_write steps k
first_step steps k e = rw (eq-eqb k 0 e)

-- by the kind of the step before k, which stands at index `end` of a file
pub later_step : (panel n k at end : ℕ) (file : List ℕ) {kind : Option Kind} {b : Bool} → (k ≡ 0 → ⊥) → k ≤ n
    → drop end file ≡ rest_of panel (k - 1) (drop at file) → kind ≡ kind_of (step_of panel (drop end file)) → b ≡ kind_is_write kind
    → b ≡ after_write (steps_of panel n (drop at file)) k
later_step panel n k at end file d h rest read is =
    is
    ∙ ap kind_is_write read
    ∙ kind_is_write_lem (step_of panel (drop end file))
    ∙ ap (λ s. is_write (step_of panel s)) rest
    ∙ rw (ne_eqb k 0 d, step_at panel (k - 1) n (drop at file) (omega arith))

-- ---- the places of a run

module _ (file : List ℕ) (run : Run) where
  -- before the first line
  pub record AtStart (k : ℕ) : Type 0 where
    pub few : k ≤ start_count file
    pub after : after_write (start_steps file) k ≡ true
    pub unknown : run.first.0 ≡ 0

  -- among the lines
  pub record AtLine (stage frame row : ℕ) : Type 0 where
    pub low : 1 ≤ stage
    pub high : stage ≤ 4
    pub frames : frame < run_frames file
    pub rows : row < rows_of (panel_of file)
    pub past : 0 < frame_number (run_frames file) stage frame + row
    pub due : frame_due run.first.0 (frame_number (run_frames file) stage frame - cond (eqb row 0) 1 0) ≤ run.handed.0

  -- after the lines
  pub record AtStop (k : ℕ) : Type 0 where
    pub few : k ≤ stop_count file
    pub after : after_write (stop_steps file) k ≡ true
    pub due : frame_due run.first.0 (4 * run_frames file - cond (eqb k 0) 1 0) ≤ run.handed.0

  pub at-start : (k : ℕ) → place_valid file run (Start k) ≡ true → AtStart k
  at-start k e =
      let rule : (j : ℕ) → get_or (start_place_rules file run k) j true ≡ true = λ j. holds j (start_place_rules file run k) e in
      record {
        few = leb-true _ _ (rule 0);
        after = rule 1;
        unknown = eqb-true _ _ (rule 3);
      }

  pub at-line : (stage frame row : ℕ) → place_valid file run (Line stage frame row) ≡ true → AtLine stage frame row
  at-line stage frame row e =
      let rule : (j : ℕ) → get_or (line_place_rules file run stage frame row) j true ≡ true = λ j. holds j (line_place_rules file run stage frame row) e in
      record {
        low = leb-true _ _ (rule 0);
        high = leb-true _ _ (rule 1);
        frames = ltb-true _ _ (rule 2);
        rows = ltb-true _ _ (rule 3);
        past = ltb-true _ _ (rule 4);
        due = leb-true _ _ (rule 5);
      }

  pub at-stop : (k : ℕ) → place_valid file run (Stop k) ≡ true → AtStop k
  at-stop k e =
      let rule : (j : ℕ) → get_or (stop_place_rules file run k) j true ≡ true = λ j. holds j (stop_place_rules file run k) e in
      record { few = leb-true _ _ (rule 0); after = rule 1; due = leb-true _ _ (rule 2) }

  -- the first start step, where all but the moment of the last thing is known, and a later one
  pub start_first : (k : ℕ) → k ≡ 0 → k ≤ start_count file → run.first.0 ≡ 0
      → eqb run.handed.0 0 ≡ place_valid file run (Start k)
  start_first k z few unknown = rw (le-leb k (start_count file) few, eq-eqb k 0 z, eq-eqb run.first.0 0 unknown, and-true)

  pub start_later : (k : ℕ) → (k ≡ 0 → ⊥) → k ≤ start_count file → after_write (start_steps file) k ≡ true → run.first.0 ≡ 0
      → place_valid file run (Start k) ≡ true
  start_later k d few after unknown =
      let later : (not (eqb k 0) || eqb run.handed.0 0) ≡ true = rw (ne_eqb k 0 d) in
      all_kept (keep (le-leb k (start_count file) few) (keep after (keep later (keep (eq-eqb run.first.0 0 unknown) none))))

  -- a line in its range, and a stop step after a write: the moment of the last thing decides
  pub line_ranged : (stage frame row : ℕ) → 1 ≤ stage → stage ≤ 4 → frame < run_frames file → row < rows_of (panel_of file)
      → 0 < frame_number (run_frames file) stage frame + row
      → place_valid file run (Line stage frame row)
      ≡ leb (frame_due run.first.0 (frame_number (run_frames file) stage frame - cond (eqb row 0) 1 0)) run.handed.0
  line_ranged stage frame row low high f r past =
      let from = lt-ltb 0 (frame_number (run_frames file) stage frame + row) past in
      let within = lt-ltb row (rows_of (panel_of file)) r in
      decides 5 (line_place_rules file run stage frame row)
      (keep (le-leb 1 stage low)
      (keep (le-leb stage 4 high)
      (keep (lt-ltb frame (run_frames file) f) (keep within (keep from (keep refl none))))))

  pub stop_ranged : (k : ℕ) → k ≤ stop_count file → after_write (stop_steps file) k ≡ true
      → place_valid file run (Stop k) ≡ leb (frame_due run.first.0 (4 * run_frames file - cond (eqb k 0) 1 0)) run.handed.0
  stop_ranged k few after =
      decides 2 (stop_place_rules file run k) (keep (le-leb k (stop_count file) few) (keep after (keep refl none)))

-- ---- a run

pub record Valid (file : List ℕ) (n : ℕ) (run : Run) : Type 0 where
  pub low : 1 ≤ run.slot
  pub high : run.slot ≤ n
  pub order : run.handed.0 ≤ run.passed.0
  pub place : place_valid file run run.next ≡ true

module _ (file : List ℕ) (n : ℕ) (run : Run) where
  pub valid : run_valid file n run ≡ true → Valid file n run
  unfolding run_valid
  valid e =
      let rule : (j : ℕ) → get_or (run_rules file n run) j true ≡ true = λ j. holds j (run_rules file n run) e in
      record { low = leb-true _ _ (rule 0); high = leb-true _ _ (rule 1); order = leb-true _ _ (rule 2); place = rule 3 }

  -- the place decides
  pub placed : 1 ≤ run.slot → run.slot ≤ n → run.handed.0 ≤ run.passed.0 → place_valid file run run.next ≡ run_valid file n run
  unfolding run_valid
  placed low high order =
      let by = le-leb run.handed.0 run.passed.0 order in
      sym (decides 3 (run_rules file n run) (keep (le-leb 1 run.slot low) (keep (le-leb run.slot n high) (keep by (keep refl none)))))

  pub broken_rule : (j : ℕ) → get_or (run_rules file n run) j true ≡ false → false ≡ run_valid file n run
  unfolding run_valid
  broken_rule j e = sym (broken j (run_rules file n run) e)

  -- the facts of its place, and what `to_go` asks
  module _ (e : run_valid file n run ≡ true) where
    here : {place : Position} → run.next ≡ place → place_valid file run place ≡ true
    here at = sym (ap (place_valid file run) at) ∙ (valid e).place

    pub valid-start : (k : ℕ) → run.next ≡ Start k → AtStart file run k
    valid-start k at = at-start file run k (here at)

    pub valid-line : (stage frame row : ℕ) → run.next ≡ Line stage frame row → AtLine file run stage frame row
    valid-line stage frame row at = at-line file run stage frame row (here at)

    pub valid_ready : (moment : Passed) → run.passed.0 ≤ moment.0 → Ready file run run.next moment
    valid_ready moment h =
        let facts = valid e in
        record { valid = facts.place; order = omega (arith, facts.order) }
