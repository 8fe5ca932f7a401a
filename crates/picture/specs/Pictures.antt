-- Pictures of h rows of b bytes, made from a rule that gives each dot: `f x y` is dot x of row y, 1 for white.
-- Assumes nothing.
use Rattle.std.specs.Prelude.{ℕ, ◌+◌, ◌-◌, ◌*◌, ◌/◌, ◌%◌, cond, ◌&&◌, List, leb, ltb}
use Rattle.lists.specs.Lists.{tabulate}
use Rattle.panel.specs.Dots.{dot}

-- the byte whose dots are f 0 to f 7, from its high bit on
abbrev pub pack_dots : (f : ℕ → ℕ) → ℕ
pack_dots f = f 0 * 128 + f 1 * 64 + f 2 * 32 + f 3 * 16 + f 4 * 8 + f 5 * 4 + f 6 * 2 + f 7

-- a byte with each of its dots turned over
abbrev pub turned : (byte : ℕ) → ℕ
turned byte = 255 - byte

-- the picture whose dot x of row y is f x y
unfoldable pub draw : (b h : ℕ) (f : ℕ → ℕ → ℕ) → List ℕ
draw b h f = tabulate (h * b) (λ k. pack_dots (λ j. f (k % b * 8 + j) (k / b)))

-- the dots of `old`, but in the rectangle of the given width and height at x, y the dots of `new`, counted from its corner
unfoldable pub over : (x y width height : ℕ) (new old : ℕ → ℕ → ℕ) → ℕ → ℕ → ℕ
over x y width height new old u v =
    cond (leb x u && ltb u (x + width) && leb y v && ltb v (y + height)) (new (u - x) (v - y)) (old u v)

-- a picture with the dots of one rectangle replaced
unfoldable pub overdrawn : (b h : ℕ) (picture : List ℕ) (x y width height : ℕ) (new : ℕ → ℕ → ℕ) → List ℕ
overdrawn b h picture x y width height new = draw b h (over x y width height new (dot b picture))
