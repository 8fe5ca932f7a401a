-- By how many pushes to black a dot is ahead of those to white, so that its sum is minus that number: at rest, in a run and after
-- an abandon, with any number N of frames a stage. A dot is white where it is 1, and black else.
-- Assumes nothing.
use mathlib.Core.Bool.{cond}
use mathlib.Core.List.{[], ◌∷◌}
use Prim.Native.Nat.{ℕ, ◌+◌, ◌-◌}
use lib.Dec.{eqb, ltb}
use lib.IntN.{ℤ, ◌+ℤ◌}
use lib.ListN.{get_or}
use Rattle.panel.specs.Codes.{code_of}
use Rattle.wire.specs.Reading.{push_of}
use Rattle.balance.specs.Sums.{picture_of_stage}
use Rattle.balance.proofs.Stores.{Place, line, all_out, View, resting, updating, abandoned}

-- a dot at rest: 0 where it is white, N where it is black
unfoldable pub rest_excess : (N dot : ℕ) → ℕ
rest_excess N dot = cond (eqb dot 1) 0 N

-- after some frames of stages 1 to 4, a dot that is white in the picture that the stage looks at, and one that is black there
abbrev pub excess_where_white : (N stage frames : ℕ) → ℕ
excess_where_white N stage frames = get_or (frames ∷ (N - frames) ∷ frames ∷ (N - frames) ∷ []) (stage - 1) 0

abbrev pub excess_where_black : (N stage frames : ℕ) → ℕ
excess_where_black N stage frames = get_or ((N - frames) ∷ 0 ∷ 0 ∷ frames ∷ []) (stage - 1) 0

-- after some frames of a stage, in a run that began at rest, a dot that is to go from a shown to a new colour
unfoldable pub black_excess : (N stage shown new frames : ℕ) → ℕ
black_excess N stage shown new frames =
    cond (eqb (picture_of_stage stage shown new) 1) (excess_where_white N stage frames) (excess_where_black N stage frames)

-- the frames of a stage that a dot of row y has had, where the next line is that of a frame and a row: this one too, if the row is
-- past y
unfoldable pub frames_had : (frame row y : ℕ) → ℕ
frames_had frame row y = cond (ltb y row) (frame + 1) frame

-- where a run stands at a place, a dot of row y that is to go from a shown to a new colour
unfoldable pub excess_at : (N y shown new : ℕ) → Place → ℕ
excess_at N y shown new (line stage frame row) = black_excess N stage shown new (frames_had frame row y)
excess_at N y shown new all_out = rest_excess N new

-- dot x of row y, at rest, in a run and after an abandon
unfoldable pub excess_of : (N x y : ℕ) → View → ℕ
excess_of N x y (resting shown) = rest_excess N (shown x y)
excess_of N x y (updating shown new place) = excess_at N y (shown x y) (new x y) place
excess_of N x y (abandoned shown new place) = excess_at N y (shown x y) (new x y) place

-- what a stage pushes a dot in one frame
unfoldable pub stage_push : (shown new stage : ℕ) → ℤ
stage_push shown new stage = push_of (code_of stage (picture_of_stage stage shown new))

-- what four stages of one frame each push a dot in all
unfoldable pub net_push : (shown new : ℕ) → ℤ
net_push shown new = stage_push shown new 1 +ℤ stage_push shown new 2 +ℤ stage_push shown new 3 +ℤ stage_push shown new 4
