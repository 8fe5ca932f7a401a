-- What a store does, as far as the sums depend on it. Pictures are given by their dots: dot x of row y, 1 for white.
-- Assumes nothing.
use mathlib.Core.Path.{◌≡◌}
use mathlib.Core.Bool.{cond}
use mathlib.Core.List.{List, [], ◌∷◌}
use Prim.Native.Nat.{ℕ, ◌+◌, ◌*◌, ◌<◌}
use lib.Dec.{eqb, ltb}
use lib.IntN.{pos}
use Rattle.panel.specs.Codes.{code_of}
use Rattle.wire.specs.Reading.{push_of, pushed}
use Rattle.balance.specs.Sums.{picture_of_stage}

abbrev pub Dots : Type 0
Dots = ℕ → ℕ → ℕ

-- where the lines of a run stand: the next one is that of a stage (1 to 4), a frame of it (from 0) and a row; or all are out
pub data Place : Type 0 where
  line : (stage frame row : ℕ) → Place
  all_out : Place

-- the place after a line: the next row, else the next frame, else the next stage, else all are out
unfoldable pub next_place : (h N stage frame row : ℕ) → Place
next_place h N stage frame row =
    cond (ltb (row + 1) h) (line stage frame (row + 1))
    (cond (ltb (frame + 1) N) (line stage (frame + 1) 0)
    (cond (ltb stage 4) (line (stage + 1) 0 0)
    all_out))

-- what the sums depend on: a picture is shown and no run is under way; a run leads from a shown to a new picture; or a run was
-- abandoned at its place
pub data View : Type 0 where
  resting : (shown : Dots) → View
  updating : (shown new : Dots) (place : Place) → View
  abandoned : (shown new : Dots) (place : Place) → View

-- the bytes handed out push no dot
abbrev pub Silent : (b h : ℕ) (bytes : List ℕ) → Type 0
Silent b h bytes = (x y : ℕ) → pushed b h bytes x y ≡ pos 0

-- the bytes handed out push each dot of row r as a stage does where its picture has this dot, and no dot of another row
abbrev pub Drives : (b h : ℕ) (bytes : List ℕ) (stage r : ℕ) (picture : Dots) → Type 0
Drives b h bytes stage r picture =
    (x y : ℕ) → x < 8 * b → y < h → pushed b h bytes x y ≡ cond (eqb y r) (push_of (code_of stage (picture x r))) (pos 0)

-- one call on the store: the view before it, the bytes that it handed out, the view after it
pub data Move (b h N : ℕ) : View → List ℕ → View → Type 0 where
  nothing : {v : View} {bytes : List ℕ} → Silent b h bytes → Move b h N v bytes v
  start : {shown new : Dots} {bytes : List ℕ} → Silent b h bytes
      → Move b h N (resting shown) bytes (updating shown new (line 1 0 0))
  draw : {shown new : Dots} {stage frame row : ℕ} {bytes : List ℕ} → Drives b h bytes stage row (picture_of_stage stage shown new)
      → Move b h N (updating shown new (line stage frame row)) bytes (updating shown new (next_place h N stage frame row))
  done : {shown new : Dots} {bytes : List ℕ} → Silent b h bytes → Move b h N (updating shown new all_out) bytes (resting new)
  abandon : {shown new : Dots} {place : Place} {bytes : List ℕ} → Silent b h bytes
      → Move b h N (updating shown new place) bytes (abandoned shown new place)

-- a list of calls, with what each handed out
pub data Moves (b h N : ℕ) : View → List (List ℕ) → View → Type 0 where
  none : {v : View} → Moves b h N v [] v
  more : {u v w : View} {bytes : List ℕ} {handed : List (List ℕ)}
      → Move b h N u bytes v → Moves b h N v handed w → Moves b h N u (bytes ∷ handed) w
