-- Rules that accept or refuse: tests that must all hold, and refusals of which the first that applies is given.
-- Assumes nothing.
use Rattle.std.specs.Prelude.{ℕ, zero, suc, Bool, true, false, ◌&&◌, ◌||◌, List, [], ◌∷◌}

-- every test of a list holds
abbrev pub every : List Bool → Bool
every [] = true
every (test ∷ tests) = test && every tests

-- some test of a list holds
abbrev pub some : List Bool → Bool
some [] = false
some (test ∷ tests) = test || some tests

-- a test holds of each number below n
abbrev pub all_below : ℕ → (ℕ → Bool) → Bool
all_below zero test = true
all_below (suc n) test = test n && all_below n test

-- a test, and the number that is given back where it holds
pub data Case : Type 0 where
  case : (applies : Bool) (number : ℕ) → Case

-- the first number whose case applies, as `refused` answers it; where none applies, what is accepted
abbrev pub first_of : {A : Type 0} → List Case → (refused : ℕ → A) (accepted : A) → A
first_of [] refused accepted = accepted
first_of (case true number ∷ cases) refused accepted = refused number
first_of (case false number ∷ cases) refused accepted = first_of cases refused accepted
