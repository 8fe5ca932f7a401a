-- Laws of `next_place`, `frames_had` and `excess_at`: a line changes the excess of each dot as it pushes the dot, and the place after
-- it says so. Over any rows h and frames N a stage.
-- Assumes nothing.
use mathlib.Core.Path.{◌≡◌, refl, sym, ◌∙◌}
use mathlib.Core.Bool.{Bool, true, false, cond}
use Prim.Native.Nat.{ℕ, ◌+◌, ◌≤◌, ◌<◌}
use native.Mathlib.Decide.{ℕ_discrete, dec_lt}
use native.Mathlib.Numerals.{add-one}
use native.Mathlib.Omega.{arith}
use borrow.Author.Tests.{lt-ltb, le-ltb, eq-eqb, ne_eqb}
use lib.Dec.{eqb, ltb, leb}
use lib.IntN.{pos, neg_ℤ, ◌+ℤ◌, +ℤ_idr}
use Rattle.panel.specs.Codes.{code_of}
use Rattle.wire.specs.Reading.{push_of}
use Rattle.balance.specs.Sums.{picture_of_stage}
use Rattle.balance.proofs.Stores.{Dots, Place, line, all_out, next_place}
use Rattle.balance.proofs.Ahead.{rest_excess, black_excess, frames_had, excess_at}
use Rattle.balance.proofs.Excess.{rest_le, excess_first, excess_last, excess_turn, excess_frame, excess_le}

-- ---- the place after a line

module _ (h N stage frame row : ℕ) where
  pub next_row : row + 1 < h → next_place h N stage frame row ≡ line stage frame (row + 1)
  unfolding next_place
  next_row r = rw (lt-ltb _ _ r)

  pub next_frame : h ≤ row + 1 → frame + 1 < N → next_place h N stage frame row ≡ line stage (frame + 1) 0
  unfolding next_place
  next_frame r f = rw (le-ltb _ _ r, lt-ltb _ _ f)

  pub next_stage : h ≤ row + 1 → N ≤ frame + 1 → stage < 4 → next_place h N stage frame row ≡ line (stage + 1) 0 0
  unfolding next_place
  next_stage r f s = rw (le-ltb _ _ r, le-ltb _ _ f, lt-ltb _ _ s)

  pub next_none : h ≤ row + 1 → N ≤ frame + 1 → 4 ≤ stage → next_place h N stage frame row ≡ all_out
  unfolding next_place
  next_none r f s = rw (le-ltb _ _ r, le-ltb _ _ f, le-ltb _ _ s)

-- ---- the frames that a dot of row y has had

module _ (frame row y : ℕ) where
  pub had_this : y < row → frames_had frame row y ≡ frame + 1
  unfolding frames_had
  had_this l = rw (lt-ltb _ _ l)

  pub had_those_before : row ≤ y → frames_had frame row y ≡ frame
  unfolding frames_had
  had_those_before l = rw (le-ltb _ _ l)

  had_le : frames_had frame row y ≤ frame + 1
  unfolding frames_had
  had_le = elim (ltb y row) as (λ t. cond t (frame + 1) frame ≤ frame + 1) [ true ↦ omega arith | false ↦ omega arith ]

  -- the line of another row is none of them
  had_other : (y ≡ row → ⊥) → frames_had frame (row + 1) y ≡ frames_had frame row y
  unfolding frames_had
  had_other n = rw same
    where
      same : ltb y (row + 1) ≡ ltb y row
      same =
          elim (dec_lt y row) [
            | yes l ↦ rw (lt-ltb y row l, lt-ltb y (row + 1) (omega arith))
            | no l ↦
                let m : y ≤ row → ⊥ = λ q. n (omega arith) in
                rw (le-ltb y row (omega arith), le-ltb y (row + 1) (omega arith))
          ]

-- ---- one line

-- a dot of the picture that a stage looks at
picture_dot : (stage : ℕ) (shown new : Dots) (x y : ℕ)
    → picture_of_stage stage shown new x y ≡ picture_of_stage stage (shown x y) (new x y)
unfolding picture_of_stage
picture_dot stage shown new x y = by (leb stage 2)
  where
    by : (t : Bool) → (cond t shown new) x y ≡ cond t (shown x y) (new x y)
    by true = refl
    by false = refl

-- the line of a row changes the sums of its own dots by the push of their stage, and no others
pub line_push : (N stage frame row : ℕ) (shown new : Dots) (x y : ℕ) → 1 ≤ stage → stage ≤ 4 → frame < N
    → neg_ℤ (pos (black_excess N stage (shown x y) (new x y) (frames_had frame row y)))
    +ℤ cond (eqb y row) (push_of (code_of stage (picture_of_stage stage shown new x row))) (pos 0)
    ≡ neg_ℤ (pos (black_excess N stage (shown x y) (new x y) (frames_had frame (row + 1) y)))
line_push N stage frame row shown new x y l u f =
    elim (ℕ_discrete y row) [
      | yes e ↦
          rw
          (eq-eqb _ _ e, had_those_before frame row y (omega arith), had_this frame (row + 1) y (omega arith), ← e, picture_dot stage shown new x y, add-one)
          (excess_frame N frame f stage (shown x y) (new x y) l u)
      | no n ↦ rw (ne_eqb _ _ n, had_other frame row y n, +ℤ_idr)
    ]

-- ---- the places that a run can stand at

pub data InRun (N : ℕ) : Place → Type 0 where
  at-line : {stage frame row : ℕ} → 1 ≤ stage → stage ≤ 4 → frame < N → InRun N (line stage frame row)
  at_end : InRun N all_out

pub at-le : (N y shown new : ℕ) {place : Place} → InRun N place → excess_at N y shown new place ≤ N
unfolding excess_at
at-le N y shown new (at-line {stage} {frame} {row} l u f) =
    excess_le N (frames_had frame row y) (omega (arith, had_le frame row y)) stage shown new l u
at-le N y shown new at_end = rest_le N new

-- a run begins at the first line, with the shown dot at rest
module _ (N : ℕ) (some : 0 < N) where
  pub at_first : InRun N (line 1 0 0)
  at_first = at-line {stage = 1} (omega arith) (omega arith) some

  pub first_excess : (y shown new : ℕ) → excess_at N y shown new (line 1 0 0) ≡ rest_excess N shown
  unfolding excess_at
  first_excess y shown new = rw (had_those_before 0 0 y (omega arith)) (excess_first N shown new)

-- after a line it stands at a place again, which tells the frames that a dot of row y has had by then
module _ (h N y shown new stage frame row : ℕ) (fy : y < h) (some : 0 < N) (l : 1 ≤ stage) (u : stage ≤ 4) (f : frame < N) where
  abbrev After : Place → Type 0
  After place = InRun N place × (excess_at N y shown new place ≡ black_excess N stage shown new (frames_had frame (row + 1) y))

  after_row : After (line stage frame (row + 1))
  unfolding excess_at
  after_row = (at-line l u f, refl)

  -- in the last row of a frame
  module _ (r : h ≤ row + 1) where
    after_frame : frame + 1 < N → After (line stage (frame + 1) 0)
    unfolding excess_at
    after_frame g =
        (at-line l u g, rw (had_those_before (frame + 1) 0 y (omega arith), had_this frame (row + 1) y (omega arith)))

    -- in the last frame of a stage
    module _ (g : N ≤ frame + 1) where
      had_all : frames_had frame (row + 1) y ≡ N
      had_all = had_this frame (row + 1) y (omega arith) ∙ omega arith

      after_stage : stage < 4 → After (line (stage + 1) 0 0)
      unfolding excess_at
      after_stage s =
          (at-line {stage = stage + 1} (omega arith) (omega arith) some, rw (had_all, had_those_before 0 0 y (omega arith)) (sym (excess_turn N shown new stage l s)))

      after_all : 4 ≤ stage → After all_out
      unfolding excess_at
      after_all s =
          let last : stage ≡ 4 = omega arith in
          (at_end, rw (had_all, last) (sym (excess_last N shown new)))

  pub after_line : After (next_place h N stage frame row)
  after_line =
      elim (dec_lt (row + 1) h) [
        | yes r ↦ rw (next_row h N stage frame row r) after_row
        | no n ↦
            let r : h ≤ row + 1 = omega arith in
            elim (dec_lt (frame + 1) N) [
              | yes g ↦ rw (next_frame h N stage frame row r g) (after_frame r g)
              | no m ↦
                  let g : N ≤ frame + 1 = omega arith in
                  elim (dec_lt stage 4) [
                    | yes s ↦ rw (next_stage h N stage frame row r g s) (after_stage r g s)
                    | no k ↦
                        let s : 4 ≤ stage = omega arith in
                        rw (next_none h N stage frame row r g s) (after_all r g s)
                  ]
            ]
      ]
