-- Laws of what a run hands out next.
-- Assumes nothing.
use mathlib.Core.Path.{◌≡◌, refl, sym, ap, ◌∙◌}
use mathlib.Core.Bool.{true}
use mathlib.Core.List.{List, [], ◌∷◌}
use Prim.Native.Nat.{ℕ, ◌+◌, ◌-◌, ◌≤◌}
use native.Mathlib.Omega.{arith}
use lib.ListN.{length, drop, length-drop}
use Rattle.panel.specs.Names.{panel_code}
use Rattle.panel.proofs.Panels.{size_of as panel_size}
use Rattle.settings.specs.Settings.{Step, size_of, step_of, steps_of, panel_of, start_count, start_steps, stop_count, stop_steps, settings_good, rows_in}
use Rattle.settings.specs.Steps.{from_write}
use Rattle.settings.specs.Facts.{PlaceOf}
use Rattle.settings.specs.Plans.{PlanOf}
use Rattle.settings.specs.declared.Place.{Place}
use Rattle.settings.specs.declared.Section.{Section}
use Rattle.settings.specs.declared.Plan.{Plan}
use Rattle.settings.proofs.Steps.{length_steps, Turn, next_steps}
use Rattle.settings.proofs.Accepted.{good-panel}
use Rattle.run.specs.Conditions.{place_valid}
use Rattle.run.specs.Due.{run_frames}
use Rattle.run.specs.Place.{next_position}
use Rattle.run.specs.Runs.{moved}
use Rattle.run.specs.declared.Tick.{Tick}
use Rattle.run.specs.declared.Passed.{Passed}
use Rattle.run.specs.declared.Run.{Run}
use Rattle.run.specs.declared.Position.{Position}
use Rattle.run.specs.declared.Position.TheVariants as position
use Rattle.run.proofs.Valid.{at-start, at-line, at-stop}
use Rattle.poll.specs.HandOut.{outcome, step_bytes, line_bytes, shown_after, send_write, send_line, hand_start, hand_stop}
use Rattle.poll.specs.Facts.{Sent, LineIn}
use Rattle.poll.specs.declared.Answer.TheVariants.{Write, Line, Done}
use Rattle.run.specs.declared.Phase.{Phase}
use Rattle.run.specs.declared.Phase.TheVariants.{Idle, Running}

-- ---- the next write

-- the steps after the one at a place
abbrev after : (panel : ℕ) (file : List ℕ) (place : Place) → List Step
after panel file place = steps_of panel (place.left - 1) (drop (place.at + size_of (step_of panel (drop place.at file))) file)

placed : {panel : ℕ} {file : List ℕ} {steps : List Step} {place : Place} → PlaceOf panel file steps place
    → step_of panel (drop place.at file) ∷ after panel file place ≡ from_write steps
placed {panel} {file} {place = place} of =
    let turn : Turn panel file place.at place.left (size_of (step_of panel (drop place.at file))) = record { more = of.some; sized = refl } in
    sym (next_steps turn) ∙ of.rest

-- how many steps are left from it on
pub place-few : (panel : ℕ) (file : List ℕ) (n k : ℕ) (s : List ℕ) {place : Place} → PlaceOf panel file (drop k (steps_of panel n s)) place
    → place.left ≤ n
place-few panel file n k s of = omega (arith, of.few, length-drop k (steps_of panel n s), length_steps panel n s)

module _ (file : List ℕ) (run : Run) (tick : Tick) (moment : Passed) (memory out : List ℕ) {plan : Plan} (of : PlanOf file plan) (k : ℕ) where
  abbrev panel : ℕ
  panel = panel_code plan.panel

  abbrev steps_in : Section → List Step
  steps_in section = drop k (steps_of panel section.count (drop section.at file))

  left_after : (place : Place) → place.left - 1 ≡ length (after panel file place)
  left_after place = sym (length_steps panel (place.left - 1) _)

  -- no write is left
  pub start-line : from_write (steps_in plan.start) ≡ [] → send_line file run tick moment memory out moment 1 0 0
      ≡ hand_start file run tick moment memory out (from_write (drop k (start_steps file)))
  start-line none =
      ap (hand_start file run tick moment memory out) (sym none ∙ ap (λ (steps : List Step). from_write (drop k steps)) of.start.steps_are)

  pub stop-done : {after-copy : List ℕ} → from_write (steps_in plan.stop) ≡ [] → after-copy ≡ shown_after file memory run.slot
      → outcome Done Idle after-copy out ≡ hand_stop file run tick moment memory out (from_write (drop k (stop_steps file)))
  stop-done none copied =
      ap (λ (m : List ℕ). outcome Done Idle m out) copied
      ∙ ap (hand_stop file run tick moment memory out) (sym none ∙ ap (λ (steps : List Step). from_write (drop k steps)) of.stop.steps_are)

  -- or one stands at a place
  pub start_write : (place : Place) → PlaceOf panel file (steps_in plan.start) place
      → send_write file run tick moment memory out (step_of panel (drop place.at file)) (position.Start (plan.start.count - (place.left - 1)))
      ≡ hand_start file run tick moment memory out (from_write (drop k (start_steps file)))
  start_write place here =
      let step : Step = step_of panel (drop place.at file) in
      ap (λ (n : ℕ). send_write file run tick moment memory out step (position.Start (plan.start.count - n))) (left_after place)
      ∙ ap (λ (n : ℕ). send_write file run tick moment memory out step (position.Start (n - length (after panel file place)))) of.start.count_is
      ∙ ap (hand_start file run tick moment memory out) (placed here ∙ ap (λ (steps : List Step). from_write (drop k steps)) of.start.steps_are)

  pub stop_write : (place : Place) → PlaceOf panel file (steps_in plan.stop) place
      → send_write file run tick moment memory out (step_of panel (drop place.at file)) (position.Stop (plan.stop.count - (place.left - 1)))
      ≡ hand_stop file run tick moment memory out (from_write (drop k (stop_steps file)))
  stop_write place here =
      let step : Step = step_of panel (drop place.at file) in
      ap (λ (n : ℕ). send_write file run tick moment memory out step (position.Stop (plan.stop.count - n))) (left_after place)
      ∙ ap (λ (n : ℕ). send_write file run tick moment memory out step (position.Stop (n - length (after panel file place)))) of.stop.count_is
      ∙ ap (hand_stop file run tick moment memory out) (placed here ∙ ap (λ (steps : List Step). from_write (drop k steps)) of.stop.steps_are)

-- ---- what goes out, and where the run goes on

module _ (file : List ℕ) (run : Run) (tick : Tick) (moment : Passed) (out : List ℕ) where
  pub write_out : (panel at : ℕ) (next : Position) {n : ℕ} {o : List ℕ} {phase : Phase}
      → Sent (step_bytes (step_of panel (drop at file))) out n o → phase ≡ Running (moved run tick moment run.first next)
      → (memory : List ℕ) → outcome (Write n) phase memory o
      ≡ send_write file run tick moment memory out (step_of panel (drop at file)) next
  write_out panel at next sent p memory = rw (sent.many, sent.whole, p)

  pub line-out : (memory : List ℕ) (first : Passed) (stage frame row h N : ℕ) {n : ℕ} {o : List ℕ} {phase : Phase} {next : Position}
      → h ≡ rows_in file → N ≡ run_frames file → Sent (line_bytes file memory run.slot stage row) out n o
      → next ≡ next_position h N stage frame row → phase ≡ Running (moved run tick moment first next)
      → outcome (Line n) phase memory o ≡ send_line file run tick moment memory out first stage frame row
  line-out memory first stage frame row h N eh e_n sent q p = rw (sent.many, sent.whole, p, q, eh, e_n)

-- the first line of a run
pub first_line_lem : (file : List ℕ) → settings_good file ≡ true → LineIn file 1 0 0
first_line_lem file good =
    let size = panel_size (panel_of file) (good-panel file good) in
    record { good = good; low = omega arith; high = omega arith; frames = size.frames_some; rows = size.high }

-- ---- what a valid place allows

module _ (file : List ℕ) (run : Run) (valid : place_valid file run run.next ≡ true) where
  here : {p : Position} → run.next ≡ p → place_valid file run p ≡ true
  here e = sym (ap (place_valid file run) e) ∙ valid

  pub start_place : (k : ℕ) → run.next ≡ position.Start k → k ≤ start_count file
  start_place k e = (at-start file run k (here e)).few

  pub stop_place : (k : ℕ) → run.next ≡ position.Stop k → k ≤ stop_count file
  stop_place k e = (at-stop file run k (here e)).few

  pub line_place : (stage frame row : ℕ) → settings_good file ≡ true → run.next ≡ position.Line stage frame row → LineIn file stage frame row
  line_place stage frame row good e =
      let a = at-line file run stage frame row (here e) in
      record { good = good; low = a.low; high = a.high; frames = a.frames; rows = a.rows }
