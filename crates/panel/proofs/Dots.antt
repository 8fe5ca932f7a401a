-- Laws of dots.
-- Assumes nothing.
use mathlib.Core.Path.{◌≡◌}
use mathlib.Core.List.{List}
use Prim.Native.Nat.{ℕ, ◌+◌, ◌-◌, ◌*◌, ◌/◌, ◌%◌, ◌^◌, ◌<◌}
use native.Mathlib.Nat.{mod-lt}
use native.Mathlib.Omega.{arith}
use lib.ListN.{get_or, take, drop}
use lib.Seq.{get_or-take, get_or-drop}
use Rattle.panel.specs.Dots.{bit, row_dot, dot}

pub bit-lt : (byte j : ℕ) → bit byte j < 2
bit-lt byte j = mod-lt (byte / 2 ^ (7 - j)) (omega arith)

pub dot_lt : (b : ℕ) (picture : List ℕ) (x y : ℕ) → dot b picture x y < 2
unfolding dot
dot_lt b picture x y = bit-lt (get_or picture (y * b + x / 8) 0) (x % 8)

-- dot x of row y of a picture is dot x of that row
pub dot_row : (b : ℕ) (picture : List ℕ) (x y : ℕ) → x < 8 * b → row_dot (take b (drop (y * b) picture)) x ≡ dot b picture x y
unfolding row_dot dot
dot_row b picture x y h =
    let l : x / 8 < b = omega arith in
    rw (get_or-take b (drop (y * b) picture) (x / 8) 0 l, get_or-drop (y * b) picture (x / 8) 0)
