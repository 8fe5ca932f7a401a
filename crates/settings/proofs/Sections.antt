-- The rules of a file, section by section.
-- Assumes nothing.
use mathlib.Core.Path.{◌≡◌, sym, ap, ◌∙◌}
use mathlib.Core.Bool.{Bool, true, false, ◌&&◌, and-false, and-true}
use mathlib.Core.List.{List}
use Prim.Native.Nat.{ℕ, ◌+◌, ◌-◌, ◌≤◌, ◌<◌}
use native.Mathlib.Nat.{add-zero}
use native.Mathlib.Decide.{ℕ_discrete}
use native.Mathlib.Omega.{arith}
use borrow.Author.Tests.{leb-true, ltb-true, lt-ltb, le-ltb, lt-leb, le-leb, eq-eqb, ne_eqb}
use lib.Dec.{eqb, leb, ltb}
use lib.ListN.{length, get_or, drop, length-drop}
use lib.Seq.{drop-drop, get_or-drop}
use Rattle.lists.specs.Rules.{every}
use Rattle.lists.proofs.Rules.{broken, holds, none, keep, all_kept, every_parts, others}
use Rattle.settings.specs.Settings.{steps_of, rest_of, all_steps, panel_of, start_count, start_steps, stop_section, stop_count, stop_steps, end_of, head_rules, start_step_rules, stop_section_rules, settings_rules, settings_good}
use Rattle.std.specs.Prelude.{Some, None}
use Rattle.std.specs.Bool.{then_some}
use Rattle.settings.specs.Facts.{Readable, StopAt, EndsAt, Passed, StartPassed, LaidOut}
use Rattle.settings.specs.declared.StepsEnd.{StepsEnd}

-- ---- the first rules

pub readable : (file : List ℕ) → every (head_rules file) ≡ true → Readable file
readable file e =
    record { long = leb-true _ _ (holds 0 (head_rules file) e); panel = ltb-true _ _ (holds 2 (head_rules file) e) }

-- ---- the start steps

pub start-refused : {file : List ℕ} (k : ℕ) → get_or (start_step_rules file) k true ≡ false → StartPassed file None
start-refused {file} k e = record { good = sym (broken k (start_step_rules file) e); stop = tt }

pub start-passed : {file : List ℕ} {r : StepsEnd} → all_steps (start_steps file) ≡ true → Passed (panel_of file) (start_count file) 3 file r
    → r.channels ≡ true → r.level ≡ true → StartPassed file (Some r.end)
start-passed all passed channels level =
    let written = keep (sym passed.channels ∙ channels) (keep (sym passed.level ∙ level) none) in
    record {
      good = sym (all_kept (keep all written));
      stop = record { within = passed.ends.within; rest = passed.ends.rest };
    }

-- ---- the stop section, at index `stop`

module _ {file : List ℕ} {stop : ℕ} (begins : StopAt file stop) where
  stop-length : length (stop_section file) ≡ length file - stop
  stop-length = sym (ap length begins.rest) ∙ length-drop stop file

  pub stop_count_lem : stop_count file ≡ get_or file stop 0
  stop_count_lem = sym (ap (λ s. get_or s 0 0) begins.rest) ∙ get_or-drop stop file 0 0 ∙ ap (λ i. get_or file i 0) (add-zero stop)

  stop_more : drop 1 (stop_section file) ≡ drop (stop + 1) file
  stop_more = sym (ap (drop 1) begins.rest) ∙ drop-drop 1 stop file

  pub stop_steps_lem : stop_steps file ≡ steps_of (panel_of file) (get_or file stop 0) (drop (stop + 1) file)
  stop_steps_lem = rw (stop_count_lem, stop_more)

  stop_end : end_of file ≡ rest_of (panel_of file) (get_or file stop 0) (drop (stop + 1) file)
  stop_end = rw (stop_count_lem, stop_more)

  pub no_section : length file ≤ stop → every (stop_section_rules file) ≡ false
  no_section h = broken 0 (stop_section_rules file) (le-ltb 0 (length (stop_section file)) (omega (arith, stop-length)))

  pub many_stops : 32 < get_or file stop 0 → every (stop_section_rules file) ≡ false
  many_stops h = broken 1 (stop_section_rules file) (lt-leb (stop_count file) 32 (omega (arith, stop_count_lem)))

  pub bad_stop : all_steps (steps_of (panel_of file) (get_or file stop 0) (drop (stop + 1) file)) ≡ false
      → every (stop_section_rules file) ≡ false
  bad_stop e = broken 2 (stop_section_rules file) (ap all_steps stop_steps_lem ∙ e)

  module _ {end : ℕ} (ends : EndsAt (panel_of file) (get_or file stop 0) (stop + 1) file end) where
    end_length : length (end_of file) ≡ length file - end
    end_length = ap length (stop_end ∙ sym ends.rest) ∙ length-drop end file

    at_end : eqb end (length file) ≡ eqb (length (end_of file)) 0
    at_end =
        let w = ends.within in
        elim (ℕ_discrete end (length file)) [
          | yes e ↦ eq-eqb _ _ e ∙ sym (eq-eqb (length (end_of file)) 0 (omega (arith, end_length)))
          | no d ↦ ne_eqb _ _ d ∙ sym (ne_eqb (length (end_of file)) 0 (λ z. d (omega (arith, end_length))))
        ]

    pub stop_rules : stop < length file → get_or file stop 0 ≤ 32
        → all_steps (steps_of (panel_of file) (get_or file stop 0) (drop (stop + 1) file)) ≡ true
        → eqb end (length file) ≡ every (stop_section_rules file)
    stop_rules h n all =
        let some : ltb 0 (length (stop_section file)) ≡ true = lt-ltb 0 (length (stop_section file)) (omega (arith, stop-length)) in
        let few : leb (stop_count file) 32 ≡ true = le-leb (stop_count file) 32 (omega (arith, stop_count_lem)) in
        let good : all_steps (stop_steps file) ≡ true = ap all_steps stop_steps_lem ∙ all in
        at_end
        ∙ sym (and-true (eqb (length (end_of file)) 0))
        ∙ sym (others 3 (stop_section_rules file) (keep some (keep few (keep good none))))

-- ---- the whole file

module _ (file : List ℕ) where
  good-parts : settings_good file ≡ (every (head_rules file) && (every (start_step_rules file) && every (stop_section_rules file)))
  unfolding settings_good
  good-parts =
      every_parts 5 (settings_rules file)
      ∙ ap (λ (b : Bool). every (head_rules file) && b) (every_parts 3 (drop 5 (settings_rules file)))

  refused : settings_good file ≡ false → LaidOut file None
  refused e = record { good = sym e; stop = tt }

  pub head_broken : every (head_rules file) ≡ false → LaidOut file None
  head_broken e = refused (good-parts ∙ rw e)

  pub start_broken : every (start_step_rules file) ≡ false → LaidOut file None
  start_broken e = refused (good-parts ∙ rw (e, and-false))

  -- where the first two parts keep their rules, the third decides
  pub laid_out : {stop : ℕ} → StopAt file stop → every (head_rules file) ≡ true → every (start_step_rules file) ≡ true
      → (good : Bool) → good ≡ every (stop_section_rules file) → LaidOut file (then_some good stop)
  laid_out begins head start true e =
      let some : 0 < length (stop_section file) = ltb-true _ _ (holds 0 (stop_section_rules file) (sym e)) in
      let good : settings_good file ≡ true = good-parts ∙ rw (head, start, ← e) in
      record {
        good = sym good;
        stop = record { good = good; within = omega (arith, stop-length begins); rest = begins.rest };
      }
  laid_out begins head start false e = refused (good-parts ∙ rw (← e, and-false, and-false))
