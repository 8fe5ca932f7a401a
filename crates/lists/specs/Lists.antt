-- Lists made from a rule, and lists laid over others.
-- Assumes nothing.
use Rattle.std.specs.Prelude.{ℕ, zero, suc, List, [], ◌∷◌, ◌++◌, length, take, drop}

-- f 0, f 1, .., f (n - 1)
abbrev pub tabulate : ℕ → (ℕ → ℕ) → List ℕ
tabulate zero f = []
tabulate (suc n) f = tabulate n f ++ (f n ∷ [])

-- `out` with its first bytes replaced by `bytes`
abbrev pub overlay : (bytes out : List ℕ) → List ℕ
overlay bytes out = bytes ++ drop (length bytes) out

-- `out` with its bytes from index `at` on replaced by `bytes`
abbrev pub overlay_at : (at : ℕ) (bytes out : List ℕ) → List ℕ
overlay_at at bytes out = take at out ++ overlay bytes (drop at out)
