-- Document 01, "The sums of demand 3": a dot's sum over the bytes that were handed out, on a panel of b row bytes and h rows with
-- N frames a stage.
-- Assumes nothing.
use Rattle.std.specs.Prelude.{◌≡◌, cond, List, [], ◌∷◌, ℕ, eqb, leb, ℤ, pos, neg_ℤ, ◌+ℤ◌}
use Rattle.wire.specs.Reading.{pushed}

-- the sum of dot x of row y over what was handed out, in order
unfoldable pub sum_of : (b h x y : ℕ) (handed : List (List ℕ)) → ℤ
sum_of b h x y [] = pos 0
sum_of b h x y (bytes ∷ handed) = pushed b h bytes x y +ℤ sum_of b h x y handed

-- a whole number is at most another: some natural number is the difference
abbrev pub AtMost : (m n : ℤ) → Type 0
AtMost m n = (k : ℕ) × (m +ℤ pos k ≡ n)

-- -N ≤ sum ≤ 0
abbrev pub Within : (N : ℕ) (sum : ℤ) → Type 0
Within N sum = AtMost (neg_ℤ (pos N)) sum × AtMost sum (pos 0)

-- the sum of a dot at rest: 0 where the shown picture is white (1), -N where it is black (0)
unfoldable pub rest_sum : (N dot : ℕ) → ℤ
rest_sum N dot = cond (eqb dot 1) (pos 0) (neg_ℤ (pos N))

-- the picture that a stage looks at: the shown one in stages 1 and 2, the new one in stages 3 and 4
unfoldable pub picture_of_stage : {A : Type 0} → (stage : ℕ) (shown new : A) → A
picture_of_stage stage shown new = cond (leb stage 2) shown new
