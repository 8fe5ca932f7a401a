-- The sums over any list of moves, over any row bytes b, rows h and frames N a stage: a dot's sum is minus its excess of pushes to
-- black, which the view tells. So it stays from -N to 0, and at rest it is that of the shown dot.
-- Assumes nothing.
use mathlib.Core.Path.{◌≡◌, sym, ◌∙◌}
use mathlib.Core.List.{List}
use Prim.Native.Nat.{ℕ, ◌*◌, ◌≤◌, ◌<◌}
use lib.IntN.{ℤ, pos, neg_ℤ, ◌+ℤ◌, ◌*ℤ◌, +ℤ_idl, +ℤ_idr, +ℤ_assoc}
use Rattle.wire.specs.Reading.{pushed}
use Rattle.balance.specs.Sums.{sum_of, Within, rest_sum}
use Rattle.balance.proofs.Stores.{Dots, Place, line, all_out, View, resting, updating, abandoned, Move, nothing, start, draw, done, abandon, Moves, none, more}
use Rattle.balance.proofs.Ahead.{rest_excess, excess_at, excess_of, net_push}
use Rattle.balance.proofs.Excess.{minus_within, rest_sum_lem, rest_le, rest_net}
use Rattle.balance.proofs.Places.{InRun, at-line, at-le, at_first, first_excess, line_push, after_line}

-- a run, under way or abandoned, stands at a place of a run
pub data Valid (N : ℕ) : View → Type 0 where
  at_rest_lem : {shown : Dots} → Valid N (resting shown)
  under_way : {shown new : Dots} {place : Place} → InRun N place → Valid N (updating shown new place)
  left_off : {shown new : Dots} {place : Place} → InRun N place → Valid N (abandoned shown new place)

of_le : (N x y : ℕ) {v : View} → Valid N v → excess_of N x y v ≤ N
unfolding excess_of
of_le N x y at_rest_lem = rest_le N _
of_le N x y (under_way i) = at-le N y _ _ i
of_le N x y (left_off i) = at-le N y _ _ i

module _ (b h N x y : ℕ) (some : 0 < N) (fx : x < 8 * b) (fy : y < h) where
  -- a push leads from the sum of one view to that of another
  abbrev pub Leads : View → ℤ → View → Type 0
  Leads u push v = Valid N v × (neg_ℤ (pos (excess_of N x y u)) +ℤ push ≡ neg_ℤ (pos (excess_of N x y v)))

  pub move_leads : {u v : View} {bytes : List ℕ} → Move b h N u bytes v → Valid N u → Leads u (pushed b h bytes x y) v
  unfolding excess_of excess_at
  move_leads (nothing s) i = (i, rw (s x y, +ℤ_idr))
  move_leads (start {shown} {new} s) i =
      (under_way (at_first N some), rw (s x y, +ℤ_idr, first_excess N some y (shown x y) (new x y)))
  move_leads (draw {shown} {new} {stage} {frame} {row} d) (under_way (at-line l u f)) =
      let after = after_line h N y (shown x y) (new x y) stage frame row fy some l u f in
      (under_way after.0, rw (d x y fx fy, after.1) (line_push N stage frame row shown new x y l u f))
  move_leads (done s) i = (at_rest_lem, rw (s x y, +ℤ_idr))
  move_leads (abandon s) (under_way i) = (left_off i, rw (s x y, +ℤ_idr))

  pub moves_lead : {u v : View} {handed : List (List ℕ)} → Moves b h N u handed v → Valid N u → Leads u (sum_of b h x y handed) v
  unfolding sum_of
  moves_lead none i = (i, +ℤ_idr _)
  moves_lead (more m ms) i =
      let one = move_leads m i in
      let rest = moves_lead ms one.0 in
      (rest.0, rw (← +ℤ_assoc, one.1) rest.1)

  -- ---- from a rest where the dot is white

  module _ {first : Dots} {handed : List (List ℕ)} where
    -- the sum is minus the excess
    pub moves_sum : {v : View} → Moves b h N (resting first) handed v → first x y ≡ 1
        → sum_of b h x y handed ≡ neg_ℤ (pos (excess_of N x y v))
    unfolding excess_of rest_excess
    moves_sum ms white =
        let sum : pos 0 +ℤ sum_of b h x y handed ≡ _ = rw white at (moves_lead ms at_rest_lem).1 in
        sym (+ℤ_idl _) ∙ sum

    -- -N ≤ sum ≤ 0
    pub moves_within : {v : View} → Moves b h N (resting first) handed v → first x y ≡ 1 → Within N (sum_of b h x y handed)
    moves_within {v} ms white =
        rw (moves_sum ms white) (minus_within N (excess_of N x y v) (of_le N x y (moves_lead ms at_rest_lem).0))

    -- at rest it is that of the shown dot
    pub moves_rest : {shown : Dots} → Moves b h N (resting first) handed (resting shown) → first x y ≡ 1
        → sum_of b h x y handed ≡ rest_sum N (shown x y)
    unfolding excess_of
    moves_rest {shown} ms white = moves_sum ms white ∙ rest_sum_lem N (shown x y)

  -- ---- from any rest

  -- a run whose lines are all out has pushed a dot by N times its net push
  pub finished_run : {shown new : Dots} {handed : List (List ℕ)}
      → Moves b h N (updating shown new (line 1 0 0)) handed (updating shown new all_out)
      → sum_of b h x y handed ≡ pos N *ℤ net_push (shown x y) (new x y)
  unfolding excess_of excess_at
  finished_run {shown} {new} ms =
      rest_net N (shown x y) (new x y) _
      (rw (first_excess N some y (shown x y) (new x y)) at (moves_lead ms (under_way (at_first N some))).1)

  -- so has any list of runs that leads from rest to rest
  pub rest_to_rest : {first shown : Dots} {handed : List (List ℕ)} → Moves b h N (resting first) handed (resting shown)
      → sum_of b h x y handed ≡ pos N *ℤ net_push (first x y) (shown x y)
  unfolding excess_of
  rest_to_rest {first} {shown} ms = rest_net N (first x y) (shown x y) _ (moves_lead ms at_rest_lem).1
