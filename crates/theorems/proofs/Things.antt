-- Laws of the things of a run: the next write is the first of the writes, and what comes after a line is what its next position has.
-- Assumes nothing.
use mathlib.Core.Path.{◌≡◌, refl, sym, ap, ◌∙◌}
use mathlib.Core.Bool.{true, false≢true}
use mathlib.Core.List.{List, [], ◌∷◌, ◌++◌, append_assoc}
use Prim.Native.Nat.{ℕ, suc, ◌+◌, ◌-◌, ◌≤◌, ◌<◌}
use native.Mathlib.Decide.{dec_lt}
use native.Mathlib.Nat.{sub-zero}
use native.Mathlib.Omega.{arith}
use lib.ListN.{length, take, drop, length-append, take-append-drop}
use lib.Seq.{drop_at}
use Rattle.settings.specs.Settings.{Step, write, wait, malformed, all_steps, stop_steps, rows_in}
use Rattle.settings.specs.Steps.{from_write}
use Rattle.run.specs.Due.{run_frames}
use Rattle.run.specs.Place.{next_position}
use Rattle.run.specs.declared.Position.TheVariants.{Line}
use Rattle.run.proofs.Place.{next_row, next_frame, next_stage, next_stop}
use Rattle.theorems.specs.Order.{Thing, a_write, a_line, the_end, writes_of, rows_from, frames_from, stages_from, things_from}

-- ---- writes

-- the waits before the next write
abbrev waits_part : List Step → List Step
waits_part [] = []
waits_part (wait ms ∷ steps) = wait ms ∷ waits_part steps
waits_part (write register bytes ∷ steps) = []
waits_part (malformed ∷ steps) = []

waits_then : (steps : List Step) → waits_part steps ++ from_write steps ≡ steps
waits_then [] = refl
waits_then (wait ms ∷ steps) = ap (λ (l : List Step). wait ms ∷ l) (waits_then steps)
waits_then (write register bytes ∷ steps) = refl
waits_then (malformed ∷ steps) = refl

pub writes_from : (steps : List Step) → writes_of steps ≡ writes_of (from_write steps)
writes_from [] = refl
writes_from (wait ms ∷ steps) = writes_from steps
writes_from (write register bytes ∷ steps) = refl
writes_from (malformed ∷ steps) = refl

-- the next write is the first of the writes
pub first_write : (steps : List Step) (step : Step) (rest : List Step) → all_steps steps ≡ true → from_write steps ≡ step ∷ rest
    → writes_of steps ≡ a_write step ∷ writes_of rest
first_write [] step rest all e = absurd (let z : ◌≡◌ {A = ℕ} 0 1 = cc in omega arith)
first_write (wait ms ∷ steps) step rest all e = first_write steps step rest all e
first_write (write register bytes ∷ steps) step rest all e = cc
first_write (malformed ∷ steps) step rest all e = absurd (false≢true all)

-- the steps after it are those that its count leaves
pub after_write_lem : (steps : List Step) (k : ℕ) (step : Step) (rest : List Step) → from_write (drop k steps) ≡ step ∷ rest
    → drop (length steps - length rest) steps ≡ rest
after_write_lem steps k step rest e =
    let front : List Step = (take k steps ++ waits_part (drop k steps)) ++ (step ∷ []) in
    let split : front ++ rest ≡ steps =
    append_assoc (take k steps ++ waits_part (drop k steps)) (step ∷ []) rest
    ∙ append_assoc (take k steps) (waits_part (drop k steps)) (step ∷ rest)
    ∙ ap (λ (l : List Step). take k steps ++ (waits_part (drop k steps) ++ l)) (sym e)
    ∙ ap (λ (l : List Step). take k steps ++ l) (waits_then (drop k steps))
    ∙ take-append-drop k steps in
    let long : length front + length rest ≡ length steps = sym (length-append front rest) ∙ ap length split in
    let at : length front ≡ length steps - length rest = omega arith in
    ap (λ (l : List Step). drop (length steps - length rest) l) (sym split)
    ∙ drop_at front rest (length steps - length rest) at

-- ---- lines

module _ (h N : ℕ) (rest : List Thing) where
  -- the lines from a row on, and what follows them
  abbrev lines_from : (stage frame row : ℕ) → List Thing
  lines_from stage frame row =
      rows_from stage frame row (h - row)
      ++ (frames_from h stage (frame + 1) (N - (frame + 1)) ++ (stages_from h N (stage + 1) (4 - stage) ++ rest))

  frame_begins_lem : (stage frame count : ℕ) (more : List Thing)
      → frames_from h stage frame (suc count) ++ more ≡ rows_from stage frame 0 (h - 0) ++ (frames_from h stage (frame + 1) count ++ more)
  frame_begins_lem stage frame count more =
      append_assoc (rows_from stage frame 0 h) (frames_from h stage (frame + 1) count) more
      ∙ ap (λ (n : ℕ). rows_from stage frame 0 n ++ (frames_from h stage (frame + 1) count ++ more)) (sym (sub-zero h))

  stage-begins : (stage : ℕ) (more : List Thing) → 0 < N
      → frames_from h stage 0 N ++ more ≡ rows_from stage 0 0 (h - 0) ++ (frames_from h stage (0 + 1) (N - (0 + 1)) ++ more)
  stage-begins stage more some =
      let e : N ≡ suc (N - (0 + 1)) = omega arith in
      ap (λ (n : ℕ). frames_from h stage 0 n ++ more) e ∙ frame_begins_lem stage 0 (N - (0 + 1)) more

  pub lines_begin : 0 < N → stages_from h N 1 4 ++ rest ≡ lines_from 1 0 0
  lines_begin some =
      append_assoc (frames_from h 1 0 N) (stages_from h N 2 3) rest ∙ stage-begins 1 (stages_from h N 2 3 ++ rest) some

  -- after a line: the next row, else the next frame, else the next stage, else what follows the lines
  module _ (stage frame row : ℕ) where
    row_more : row + 1 < h → lines_from stage frame row ≡ a_line stage frame row ∷ lines_from stage frame (row + 1)
    row_more r =
        let e : h - row ≡ suc (h - (row + 1)) = omega arith in
        ap (λ (n : ℕ).
        rows_from stage frame row n
        ++ (frames_from h stage (frame + 1) (N - (frame + 1)) ++ (stages_from h N (stage + 1) (4 - stage) ++ rest))) e

    module _ (some : row < h) (last : h ≤ row + 1) where
      row_last : lines_from stage frame row
          ≡ a_line stage frame row ∷ (frames_from h stage (frame + 1) (N - (frame + 1)) ++ (stages_from h N (stage + 1) (4 - stage) ++ rest))
      row_last =
          let e : h - row ≡ 1 = omega arith in
          ap (λ (n : ℕ).
          rows_from stage frame row n
          ++ (frames_from h stage (frame + 1) (N - (frame + 1)) ++ (stages_from h N (stage + 1) (4 - stage) ++ rest))) e

      frame_more : frame + 1 < N → lines_from stage frame row ≡ a_line stage frame row ∷ lines_from stage (frame + 1) 0
      frame_more f =
          let more : List Thing = stages_from h N (stage + 1) (4 - stage) ++ rest in
          let e : N - (frame + 1) ≡ suc (N - (frame + 1 + 1)) = omega arith in
          row_last
          ∙ ap (λ (n : ℕ). a_line stage frame row ∷ (frames_from h stage (frame + 1) n ++ more)) e
          ∙ ap (λ (l : List Thing). a_line stage frame row ∷ l) (frame_begins_lem stage (frame + 1) (N - (frame + 1 + 1)) more)

      frame_last : N ≤ frame + 1 → lines_from stage frame row ≡ a_line stage frame row ∷ (stages_from h N (stage + 1) (4 - stage) ++ rest)
      frame_last f =
          let e : N - (frame + 1) ≡ 0 = omega arith in
          row_last
          ∙ ap (λ (n : ℕ).
          a_line stage frame row ∷ (frames_from h stage (frame + 1) n ++ (stages_from h N (stage + 1) (4 - stage) ++ rest))) e

      stage_more : 0 < N → N ≤ frame + 1 → stage < 4 → lines_from stage frame row ≡ a_line stage frame row ∷ lines_from (stage + 1) 0 0
      stage_more frames f s =
          let e : 4 - stage ≡ suc (4 - (stage + 1)) = omega arith in
          let more : List Thing = stages_from h N (stage + 1 + 1) (4 - (stage + 1)) in
          frame_last f
          ∙ ap (λ (n : ℕ). a_line stage frame row ∷ (stages_from h N (stage + 1) n ++ rest)) e
          ∙ ap (λ (l : List Thing). a_line stage frame row ∷ l)
          (append_assoc (frames_from h (stage + 1) 0 N) more rest ∙ stage-begins (stage + 1) (more ++ rest) frames)

      stage_last : N ≤ frame + 1 → 4 ≤ stage → lines_from stage frame row ≡ a_line stage frame row ∷ rest
      stage_last f s =
          let e : 4 - stage ≡ 0 = omega arith in
          frame_last f ∙ ap (λ (n : ℕ). a_line stage frame row ∷ (stages_from h N (stage + 1) n ++ rest)) e

-- a line is the first of what is to come, and the others are to come at the next position
pub line_first : (file : List ℕ) (stage frame row : ℕ) → frame < run_frames file → row < rows_in file
    → things_from file (Line stage frame row)
    ≡ a_line stage frame row ∷ things_from file (next_position (rows_in file) (run_frames file) stage frame row)
line_first file stage frame row f r =
    let h = rows_in file in
    let N = run_frames file in
    let rest : List Thing = writes_of (stop_steps file) ++ (the_end ∷ []) in
    elim (dec_lt (row + 1) h) [
      | yes q ↦ rw (next_row h N stage frame row q) (row_more h N rest stage frame row q)
      | no q ↦
          let last : h ≤ row + 1 = omega arith in
          elim (dec_lt (frame + 1) N) [
            | yes g ↦ rw (next_frame h N stage frame row last g) (frame_more h N rest stage frame row r last g)
            | no g ↦
                let full : N ≤ frame + 1 = omega arith in
                elim (dec_lt stage 4) [
                  | yes t ↦ rw (next_stage h N stage frame row last full t) (stage_more h N rest stage frame row r last (omega arith) full t)
                  | no t ↦
                      let four : 4 ≤ stage = omega arith in
                      rw (next_stop h N stage frame row last full four) (stage_last h N rest stage frame row r last full four)
                ]
          ]
    ]
