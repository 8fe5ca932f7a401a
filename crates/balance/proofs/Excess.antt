-- Laws of `rest_excess` and `black_excess`, over any number N of frames a stage: where a run begins and ends, what one frame
-- changes, and that N is never exceeded.
-- Assumes nothing.
use mathlib.Core.Path.{◌≡◌, refl, sym, ◌∙◌, ap}
use mathlib.Core.Bool.{Bool, true, false, cond}
use Prim.Native.Nat.{ℕ, zero, suc, ◌+◌, ◌-◌, ◌*◌, ◌≤◌, ◌<◌}
use native.Mathlib.Decide.{ℕ_discrete}
use native.Mathlib.Omega.{arith}
use borrow.Author.Tests.{eq-eqb, ne_eqb}
use lib.Dec.{eqb}
use lib.IntN.{ℤ, pos, negsuc, neg_ℤ, ◌+ℤ◌, ◌*ℤ◌, +ℤ_assoc, +ℤ_idl, +ℤ_idr, +ℤ_invl, +ℤ_invr, +ℤ_one, neg_ℤ-+ℤ, *ℤ-zero}
use Rattle.panel.specs.Codes.{where_white, where_black, code_by, code_of}
use Rattle.wire.specs.Reading.{push_of}
use Rattle.balance.specs.Sums.{Within, rest_sum, picture_of_stage}
use Rattle.balance.proofs.Ahead.{rest_excess, excess_where_white, excess_where_black, black_excess, stage_push, net_push}

-- ---- whole numbers

push_black : (k : ℕ) → neg_ℤ (pos k) +ℤ negsuc 0 ≡ neg_ℤ (pos (suc k))
push_black zero = refl
push_black (suc k) = ap negsuc (omega arith)

push_white : (k : ℕ) → neg_ℤ (pos (suc k)) +ℤ pos 1 ≡ neg_ℤ (pos k)
push_white zero = refl
push_white (suc k) = +ℤ_one (negsuc (suc k))

-- -N ≤ -k ≤ 0 where k ≤ N
pub minus_within : (N k : ℕ) → k ≤ N → Within N (neg_ℤ (pos k))
minus_within N k l = ((N - k, low), (k, +ℤ_invl (pos k)))
  where
    low : neg_ℤ (pos N) +ℤ pos (N - k) ≡ neg_ℤ (pos k)
    low =
        let e : N ≡ k + (N - k) = omega arith in
        let split : neg_ℤ (pos N) ≡ neg_ℤ (pos k) +ℤ neg_ℤ (pos (N - k)) =
        ap (λ n. neg_ℤ (pos n)) e ∙ neg_ℤ-+ℤ (pos k) (pos (N - k))
        in
        rw (split, +ℤ_assoc, +ℤ_invl) (+ℤ_idr (neg_ℤ (pos k)))

-- ---- a dot at rest

pub rest_sum_lem : (N dot : ℕ) → neg_ℤ (pos (rest_excess N dot)) ≡ rest_sum N dot
unfolding rest_excess rest_sum
rest_sum_lem N dot = by (eqb dot 1)
  where
    by : (t : Bool) → neg_ℤ (pos (cond t 0 N)) ≡ cond t (pos 0) (neg_ℤ (pos N))
    by true = refl
    by false = refl

pub rest_le : (N dot : ℕ) → rest_excess N dot ≤ N
unfolding rest_excess
rest_le N dot = elim (eqb dot 1) as (λ t. cond t 0 N ≤ N) [ true ↦ omega arith | false ↦ omega arith ]

module _ (N shown new : ℕ) where
  -- from rest to rest there are N times the net pushes of four one-frame stages
  rest_change : pos (rest_excess N shown) +ℤ neg_ℤ (pos (rest_excess N new)) ≡ pos N *ℤ net_push shown new
  unfolding rest_excess net_push stage_push push_of code_by picture_of_stage
  rest_change =
      let one : N * 1 ≡ N = omega arith in
      elim (ℕ_discrete shown 1) [
        | yes w ↦
            elim (ℕ_discrete new 1) [
              | yes v ↦ rw (eq-eqb shown 1 w, eq-eqb new 1 v) (sym (*ℤ-zero (pos N)))
              | no v ↦ rw (eq-eqb shown 1 w, ne_eqb new 1 v, one) (+ℤ_idl (neg_ℤ (pos N)))
            ]
        | no w ↦
            elim (ℕ_discrete new 1) [
              | yes v ↦ rw (ne_eqb shown 1 w, eq-eqb new 1 v, one) (+ℤ_idr (pos N))
              | no v ↦ rw (ne_eqb shown 1 w, ne_eqb new 1 v) (+ℤ_invr (pos N) ∙ sym (*ℤ-zero (pos N)))
            ]
      ]

  pub rest_net : (sum : ℤ) → neg_ℤ (pos (rest_excess N shown)) +ℤ sum ≡ neg_ℤ (pos (rest_excess N new))
      → sum ≡ pos N *ℤ net_push shown new
  rest_net sum e =
      let k : ℤ = pos (rest_excess N shown) in
      let back : sum ≡ k +ℤ (neg_ℤ k +ℤ sum) = rw (← +ℤ_assoc, +ℤ_invr) (sym (+ℤ_idl sum)) in
      back ∙ rw e rest_change

-- ---- the beginning and the end of a run, and of a stage

each_stage : (P : ℕ → Type 0) → P 1 → P 2 → P 3 → P 4 → (stage : ℕ) → 1 ≤ stage → stage ≤ 4 → P stage
each_stage P a b c d zero l u = absurd (omega arith)
each_stage P a b c d (suc zero) l u = a
each_stage P a b c d (suc (suc zero)) l u = b
each_stage P a b c d (suc (suc (suc zero))) l u = c
each_stage P a b c d (suc (suc (suc (suc zero)))) l u = d
each_stage P a b c d (suc (suc (suc (suc (suc _))))) l u = absurd (omega arith)

module _ (N shown new : ℕ) where
  -- a run begins with the shown dot at rest
  pub excess_first : black_excess N 1 shown new 0 ≡ rest_excess N shown
  unfolding black_excess rest_excess picture_of_stage
  excess_first = elim (eqb shown 1) as (λ t. cond t 0 (N - 0) ≡ cond t 0 N) [ true ↦ refl | false ↦ omega arith ]

  -- it ends with the new dot at rest
  pub excess_last : black_excess N 4 shown new N ≡ rest_excess N new
  unfolding black_excess rest_excess picture_of_stage
  excess_last = elim (eqb new 1) as (λ t. cond t (N - N) N ≡ cond t 0 N) [ true ↦ omega arith | false ↦ refl ]

  -- the end of a stage is the beginning of the next
  pub excess_turn : (stage : ℕ) → 1 ≤ stage → stage < 4 → black_excess N stage shown new N ≡ black_excess N (stage + 1) shown new 0
  unfolding black_excess picture_of_stage
  excess_turn stage l u =
      each_stage (λ s. s < 4 → black_excess N s shown new N ≡ black_excess N (s + 1) shown new 0)
      (λ _. elim (eqb shown 1) as (λ t. cond t N (N - N) ≡ cond t (N - 0) 0) [ true ↦ omega arith | false ↦ omega arith ])
      (λ _. second (eqb shown 1) (eqb new 1))
      (λ _. elim (eqb new 1) as (λ t. cond t N 0 ≡ cond t (N - 0) 0) [ true ↦ omega arith | false ↦ refl ])
      (λ v. absurd (omega arith))
      stage l (omega arith) u
    where
      -- stage 2 ends at 0 and stage 3 begins at 0, for every colour
      second : (t u : Bool) → cond t (N - N) 0 ≡ cond u 0 0
      second true true = omega arith
      second true false = omega arith
      second false true = refl
      second false false = refl

-- ---- one frame

module _ (N frames : ℕ) (f : frames < N) where
  less_ahead : neg_ℤ (pos (N - frames)) +ℤ pos 1 ≡ neg_ℤ (pos (N - suc frames))
  less_ahead =
      let e : N - frames ≡ suc (N - suc frames) = omega arith in
      rw e (push_white (N - suc frames))

  frame_white : (stage : ℕ) → 1 ≤ stage → stage ≤ 4
      → neg_ℤ (pos (excess_where_white N stage frames)) +ℤ push_of (where_white stage)
      ≡ neg_ℤ (pos (excess_where_white N stage (suc frames)))
  unfolding push_of
  frame_white =
      each_stage
      (λ s. neg_ℤ (pos (excess_where_white N s frames)) +ℤ push_of (where_white s) ≡ neg_ℤ (pos (excess_where_white N s (suc frames))))
      (push_black frames) less_ahead (push_black frames) less_ahead

  frame_black : (stage : ℕ) → 1 ≤ stage → stage ≤ 4
      → neg_ℤ (pos (excess_where_black N stage frames)) +ℤ push_of (where_black stage)
      ≡ neg_ℤ (pos (excess_where_black N stage (suc frames)))
  unfolding push_of
  frame_black =
      each_stage
      (λ s. neg_ℤ (pos (excess_where_black N s frames)) +ℤ push_of (where_black s) ≡ neg_ℤ (pos (excess_where_black N s (suc frames))))
      less_ahead refl refl (push_black frames)

  -- a frame changes the sum by the push of its stage
  pub excess_frame : (stage shown new : ℕ) → 1 ≤ stage → stage ≤ 4
      → neg_ℤ (pos (black_excess N stage shown new frames)) +ℤ push_of (code_of stage (picture_of_stage stage shown new))
      ≡ neg_ℤ (pos (black_excess N stage shown new (suc frames)))
  unfolding black_excess code_by
  excess_frame stage shown new l u = by (eqb (picture_of_stage stage shown new) 1)
    where
      by : (t : Bool) → neg_ℤ (pos (cond t (excess_where_white N stage frames) (excess_where_black N stage frames)))
          +ℤ push_of (cond t (where_white stage) (where_black stage))
          ≡ neg_ℤ (pos (cond t (excess_where_white N stage (suc frames)) (excess_where_black N stage (suc frames))))
      by true = frame_white stage l u
      by false = frame_black stage l u

-- ---- N is never exceeded

module _ (N frames : ℕ) (f : frames ≤ N) where
  white_le : (stage : ℕ) → 1 ≤ stage → stage ≤ 4 → excess_where_white N stage frames ≤ N
  white_le = each_stage (λ s. excess_where_white N s frames ≤ N) (omega arith) (omega arith) (omega arith) (omega arith)

  black_le : (stage : ℕ) → 1 ≤ stage → stage ≤ 4 → excess_where_black N stage frames ≤ N
  black_le = each_stage (λ s. excess_where_black N s frames ≤ N) (omega arith) (omega arith) (omega arith) (omega arith)

  pub excess_le : (stage shown new : ℕ) → 1 ≤ stage → stage ≤ 4 → black_excess N stage shown new frames ≤ N
  unfolding black_excess
  excess_le stage shown new l u = by (eqb (picture_of_stage stage shown new) 1)
    where
      by : (t : Bool) → cond t (excess_where_white N stage frames) (excess_where_black N stage frames) ≤ N
      by true = white_le stage l u
      by false = black_le stage l u
