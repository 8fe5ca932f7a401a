-- Laws of `every`, `all_below` and `first_of`.
-- Assumes nothing.
use mathlib.Core.Path.{◌≡◌, refl, sym, ap, ◌∙◌}
use mathlib.Core.Bool.{Bool, true, false, cond, not, ◌&&◌, ◌||◌, and-false, and-true, and_assoc, false≢true}
use mathlib.Core.List.{List, [], ◌∷◌, ◌++◌}
use mathlib.Core.Logic.{◌⊎◌, inl, inr}
use Prim.Native.Nat.{ℕ, zero, suc, ◌<◌}
use native.Mathlib.Nat.{not-suc-le-zero}
use native.Mathlib.Decide.{ℕ_discrete}
use native.Mathlib.Omega.{arith}
use borrow.Author.Tests.{not-true, not-false, ltb-true, ne_eqb}
use lib.Dec.{eqb, ltb}
use lib.ListN.{get_or, set, take, drop}
use Rattle.lists.specs.Rules.{every, all_below, Case, case, first_of}

-- ---- two tests

pub and_left : (a b : Bool) → (a && b) ≡ true → a ≡ true
and_left true b e = refl
and_left false b e = e

pub and_right : (a b : Bool) → (a && b) ≡ true → b ≡ true
and_right true b e = e
and_right false b e = absurd (false≢true e)

pub or_left : (a b : Bool) → a ≡ true → (a || b) ≡ true
or_left true b e = refl
or_left false b e = absurd (false≢true e)

pub or_right : (a b : Bool) → b ≡ true → (a || b) ≡ true
or_right true b e = refl
or_right false b e = e

pub either : (a b : Bool) → (a || b) ≡ true → (a ≡ true) ⊎ (b ≡ true)
either true b e = inl refl
either false b e = inr e

-- what a function that answers a test says of the test, where its answer was refused or passed
pub refused : {answer test : Bool} → answer ≡ test → not answer ≡ true → test ≡ false
refused {answer} e f = sym e ∙ not-true answer f

pub passed : {answer test : Bool} → answer ≡ test → not answer ≡ false → test ≡ true
passed {answer} e f = sym e ∙ not-false answer f

-- what holds of both, where a test picks them, holds of what it picks
pub by_test : {A : Type 0} (P : A → Type 0) (test : Bool) (a b : A) → (test ≡ true → P a) → (test ≡ false → P b) → P (cond test a b)
by_test P true a b if_true if_false = if_true refl
by_test P false a b if_true if_false = if_false refl

-- ---- every

-- one test that fails is enough
pub broken : (k : ℕ) (tests : List Bool) → get_or tests k true ≡ false → every tests ≡ false
broken k [] e = absurd (false≢true (sym e))
broken zero (t ∷ ts) e = rw e
broken (suc k) (t ∷ ts) e = rw (broken k ts e, and-false)

-- where every test holds, each does
pub holds : (k : ℕ) (tests : List Bool) → every tests ≡ true → get_or tests k true ≡ true
holds k [] e = refl
holds zero (t ∷ ts) e = and_left t (every ts) e
holds (suc k) (t ∷ ts) e = holds k ts (and_right t (every ts) e)

-- a proof of each test in turn
pub data Kept : List Bool → Type 0 where
  none : Kept []
  keep : {test : Bool} {tests : List Bool} → test ≡ true → Kept tests → Kept (test ∷ tests)

pub all_kept : {tests : List Bool} → Kept tests → every tests ≡ true
all_kept none = refl
all_kept (keep e rest) = rw (e, all_kept rest)

-- the tests of two lists
pub every_append : (left right : List Bool) → every (left ++ right) ≡ (every left && every right)
every_append [] right = refl
every_append (true ∷ ts) right = every_append ts right
every_append (false ∷ ts) right = refl

-- the first k tests, and the others
pub every_parts : (k : ℕ) (tests : List Bool) → every tests ≡ (every (take k tests) && every (drop k tests))
every_parts zero tests = refl
every_parts (suc k) [] = refl
every_parts (suc k) (t ∷ ts) = rw (every_parts k ts) (sym (and_assoc t (every (take k ts)) (every (drop k ts))))

-- where the first k tests hold, the others decide
pub others : (k : ℕ) (tests : List Bool) → Kept (take k tests) → every tests ≡ every (drop k tests)
others k tests kept = every_parts k tests ∙ rw (all_kept kept)

-- where every test but one is known to hold, that one decides
pub decides : (k : ℕ) (tests : List Bool) → Kept (set tests k true) → every tests ≡ get_or tests k true
decides k [] kept = refl
decides zero (t ∷ ts) (keep e rest) = rw (all_kept rest, and-true)
decides (suc k) (t ∷ ts) (keep e rest) = rw (e, decides k ts rest)

-- ---- all_below

-- where a test holds of every number below n, it holds of each: also the way to use a test that is computed over a whole table
pub below_all : (n : ℕ) (test : ℕ → Bool) → all_below n test ≡ true → (k : ℕ) → k < n → test k ≡ true
below_all zero test e k h = absurd (not-suc-le-zero h)
below_all (suc n) test e k h =
    elim (ℕ_discrete k n) [
      | yes q ↦ rw q (and_left (test n) (all_below n test) e)
      | no d ↦ below_all n test (and_right (test n) (all_below n test) e) k (omega arith)
    ]

pub below_fails : (n : ℕ) (test : ℕ → Bool) (k : ℕ) → k < n → test k ≡ false → all_below n test ≡ false
below_fails zero test k h e = absurd (not-suc-le-zero h)
below_fails (suc n) test k h e =
    elim (ℕ_discrete k n) [
      | yes q ↦ let f : test n ≡ false = rw q at e in rw f
      | no d ↦ rw (below_fails n test k (omega arith) e, and-false)
    ]

-- ---- first_of

-- the first case that applies has this number
pub data First : List Case → ℕ → Type 0 where
  here : {t : Bool} {n : ℕ} {cs : List Case} → t ≡ true → First (case t n ∷ cs) n
  past : {t : Bool} {m n : ℕ} {cs : List Case} → t ≡ false → First cs n → First (case t m ∷ cs) n

-- no case applies
pub data None : List Case → Type 0 where
  none : None []
  past : {t : Bool} {m : ℕ} {cs : List Case} → t ≡ false → None cs → None (case t m ∷ cs)

pub given : {A : Type 0} (cs : List Case) {n : ℕ} (refused : ℕ → A) (accepted : A) → First cs n → first_of cs refused accepted ≡ refused n
given [] refused accepted first = elim first [ ]
given (case t n ∷ cs) refused accepted (here e) = rw e
given (case t m ∷ cs) refused accepted (past e rest) = rw e (given cs refused accepted rest)

pub taken : {A : Type 0} (cs : List Case) (refused : ℕ → A) (accepted : A) → None cs → first_of cs refused accepted ≡ accepted
taken [] refused accepted none = refl
taken (case t m ∷ cs) refused accepted (past e rest) = rw e (taken cs refused accepted rest)

-- no case has the number 0
abbrev pub numbered : List Case → Bool
numbered [] = true
numbered (case test n ∷ cs) = ltb 0 n && numbered cs

-- what holds of every refusal, and of what is accepted where no case applies, holds of the first of the cases
pub by_cases : {A : Type 0} (P : A → Type 0) (cs : List Case) (refused : ℕ → A) (accepted : A) → numbered cs ≡ true
    → ((n : ℕ) → eqb n 0 ≡ false → P (refused n)) → (None cs → P accepted) → P (first_of cs refused accepted)
by_cases P [] refused accepted e if_refused if_accepted = if_accepted none
by_cases P (case true n ∷ cs) refused accepted e if_refused if_accepted =
    let h : 0 < n = ltb-true 0 n (and_left (ltb 0 n) (numbered cs) e) in
    if_refused n (ne_eqb n 0 (λ z. absurd (omega arith)))
by_cases P (case false n ∷ cs) refused accepted e if_refused if_accepted =
    by_cases P cs refused accepted (and_right (ltb 0 n) (numbered cs) e) if_refused (λ rest. if_accepted (past refl rest))

-- the cases of two lists
pub first_append : {A : Type 0} (cs ds : List Case) (refused : ℕ → A) (accepted : A)
    → first_of (cs ++ ds) refused accepted ≡ first_of cs refused (first_of ds refused accepted)
first_append [] ds refused accepted = refl
first_append (case true n ∷ cs) ds refused accepted = refl
first_append (case false n ∷ cs) ds refused accepted = first_append cs ds refused accepted

-- a number that was computed of a list of cases: a refusal where it is not 0, and none where it is
module _ {A : Type 0} (cs : List Case) (refused : ℕ → A) (accepted : A) where
  pub some_number : {r : ℕ} → r ≡ first_of cs (λ n. n) 0 → (r ≡ 0 → ⊥) → refused r ≡ first_of cs refused accepted
  some_number = number cs where
    number : (cs : List Case) {r : ℕ} → r ≡ first_of cs (λ n. n) 0 → (r ≡ 0 → ⊥) → refused r ≡ first_of cs refused accepted
    number [] e h = absurd (h e)
    number (case true n ∷ cs) e h = ap refused e
    number (case false n ∷ cs) e h = number cs e h

pub none_of : (cs : List Case) → numbered cs ≡ true → {r : ℕ} → r ≡ first_of cs (λ n. n) 0 → r ≡ 0 → None cs
none_of [] p e z = none
none_of (case true n ∷ cs) p e z =
    let h : 0 < n = ltb-true 0 n (and_left (ltb 0 n) (numbered cs) p) in
    absurd (omega arith)
none_of (case false n ∷ cs) p e z = past refl (none_of cs (and_right (ltb 0 n) (numbered cs) p) e z)

module _ {A : Type 0} (cs ds : List Case) (refused : ℕ → A) (accepted : A) where
  pub some_append : {r : ℕ} → r ≡ first_of cs (λ n. n) 0 → (r ≡ 0 → ⊥) → refused r ≡ first_of (cs ++ ds) refused accepted
  some_append is d = some_number cs refused (first_of ds refused accepted) is d ∙ sym (first_append cs ds refused accepted)

  pub none_append : None cs → first_of ds refused accepted ≡ first_of (cs ++ ds) refused accepted
  none_append free = sym (first_append cs ds refused accepted ∙ taken cs refused (first_of ds refused accepted) free)

-- no case of two lists applies: none of the first, and none of the second
pub none_parts : (cs ds : List Case) → None (cs ++ ds) → None cs × None ds
none_parts [] ds free = (none, free)
none_parts (case t n ∷ cs) ds (past e rest) = let both = none_parts cs ds rest in (past e both.0, both.1)

pub none_both : {cs ds : List Case} → None cs → None ds → None (cs ++ ds)
none_both none free = free
none_both (past e rest) free = past e (none_both rest free)

-- one more thing done to every answer
pub first_map : {A B : Type 0} (g : A → B) (cs : List Case) (refused : ℕ → A) (accepted : A)
    → g (first_of cs refused accepted) ≡ first_of cs (λ n. g (refused n)) (g accepted)
first_map g [] refused accepted = refl
first_map g (case true n ∷ cs) refused accepted = refl
first_map g (case false n ∷ cs) refused accepted = first_map g cs refused accepted
