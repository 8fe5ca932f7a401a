-- The number of a frame, and what comes after a line.
-- Assumes nothing.
use Rattle.std.proofs.Common.{◌≡◌, ℕ, zero, suc, ◌+◌, ◌-◌, ◌*◌, ◌<◌, ◌≤◌, cond, ltb, mul-le-mul_right, suc-mul, arith, ltb-false, ltb-true, le-ltb, lt-ltb}
use Rattle.lists.proofs.Rules.{by_test}
use Rattle.run.specs.Place.{frame_number, next_position}
use Rattle.run.specs.declared.Position.{Position}
use Rattle.run.specs.declared.Position.TheVariants.{Line, Stop}

-- there are 4N frames
pub frame_lt : (N stage frame : ℕ) → stage ≤ 4 → frame < N → frame_number N stage frame < 4 * N
frame_lt N stage frame h l =
    let three : stage - 1 ≤ 3 = omega arith in
    omega (arith, mul-le-mul_right N three)

module _ (h N stage frame row : ℕ) where
  pub next_row : row + 1 < h → next_position h N stage frame row ≡ Line stage frame (row + 1)
  unfolding next_position
  next_row r = rw (lt-ltb (row + 1) h r)

  pub next_frame : h ≤ row + 1 → frame + 1 < N → next_position h N stage frame row ≡ Line stage (frame + 1) 0
  unfolding next_position
  next_frame r f = rw (le-ltb (row + 1) h r, lt-ltb (frame + 1) N f)

  pub next_stage : h ≤ row + 1 → N ≤ frame + 1 → stage < 4 → next_position h N stage frame row ≡ Line (stage + 1) 0 0
  unfolding next_position
  next_stage r f s = rw (le-ltb (row + 1) h r, le-ltb (frame + 1) N f, lt-ltb stage 4 s)

  pub next_stop : h ≤ row + 1 → N ≤ frame + 1 → 4 ≤ stage → next_position h N stage frame row ≡ Stop 0
  unfolding next_position
  next_stop r f s = rw (le-ltb (row + 1) h r, le-ltb (frame + 1) N f, le-ltb stage 4 s)

-- what comes after a line, by cases
pub next_cases : (P : Position → Type 0) (h N stage frame row : ℕ)
    → (row + 1 < h → P (Line stage frame (row + 1)))
    → (frame + 1 < N → P (Line stage (frame + 1) 0))
    → (N ≤ frame + 1 → stage < 4 → P (Line (stage + 1) 0 0))
    → (N ≤ frame + 1 → 4 ≤ stage → P (Stop 0))
    → P (next_position h N stage frame row)
unfolding next_position
next_cases P h N stage frame row rows frames stages stops =
    let over = cond (ltb stage 4) (Line (stage + 1) 0 0) (Stop 0) in
    let later = cond (ltb (frame + 1) N) (Line stage (frame + 1) 0) over in
    by_test P (ltb (row + 1) h) (Line stage frame (row + 1)) later (λ r. rows (ltb-true _ _ r))
    (λ r.
    by_test P (ltb (frame + 1) N) (Line stage (frame + 1) 0) over (λ f. frames (ltb-true _ _ f))
    (λ f.
    let last : N ≤ frame + 1 = ltb-false _ _ f in
    by_test P (ltb stage 4) (Line (stage + 1) 0 0) (Stop 0) (λ s. stages last (ltb-true _ _ s)) (λ s. stops last (ltb-false _ _ s))))

-- the frame after the last one of a stage, and the end of the last frame
pub stage-number : (N stage frame : ℕ) → 1 ≤ stage → frame + 1 ≡ N → frame_number N (stage + 1) 0 ≡ frame_number N stage frame + 1
stage-number N zero frame low e = absurd (omega arith)
stage-number N (suc s) frame low e =
    let a : suc s + 1 - 1 ≡ suc s = omega arith in
    let b : suc s - 1 ≡ s = omega arith in
    rw (a, b, suc-mul) (omega arith)

pub end_number : (N stage frame : ℕ) → stage ≡ 4 → frame + 1 ≡ N → 4 * N ≡ frame_number N stage frame + 1
end_number N stage frame four e = rw four (omega arith)
