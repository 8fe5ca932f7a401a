-- Laws of tests, sums and searches over the numbers below a bound.
-- Assumes nothing.
use mathlib.Core.Path.{◌≡◌, refl, sym, ap, ◌∙◌}
use mathlib.Core.Bool.{Bool, true, false, cond, false≢true}
use mathlib.Core.Logic.{⊎_elim}
use Prim.Native.Nat.{ℕ, zero, suc, ◌+◌, ◌-◌, ◌*◌, ◌≤◌, ◌<◌}
use native.Mathlib.Nat.{suc-mul, not-suc-le-zero, eq-or-lt_of_le}
use native.Mathlib.Numerals.{add-one}
use native.Mathlib.Decide.{ℕ_discrete}
use native.Mathlib.Omega.{arith}
use borrow.Author.Tests.{ltb-true, ltb-false}
use lib.Dec.{ltb}
use Rattle.lists.specs.Rules.{all_below}
use Rattle.lists.proofs.Rules.{by_test}
use Rattle.counting.specs.Below.{sum_below, count_below, first_below, last_below}

-- ---- one turn of a loop

pub all_more : (i : ℕ) (test : ℕ → Bool) → test i ≡ true → all_below i test ≡ true → all_below (i + 1) test ≡ true
all_more i test e before = rw (add-one, e, before)

-- a test that each number passes
pub all_each : (n : ℕ) (test : ℕ → Bool) → ((k : ℕ) → k < n → test k ≡ true) → all_below n test ≡ true
all_each zero test e = refl
all_each (suc n) test e = rw (e n (omega arith), all_each n test (λ k h. e k (omega arith)))

-- a test that fails somewhere
pub all_fails : (n : ℕ) (test : ℕ → Bool) → all_below n test ≡ false → ((k : ℕ) × (k < n) × (test k ≡ false))
all_fails zero test e = absurd (false≢true (sym e))
all_fails (suc n) test e = pick (test n) refl (λ (f : all_below n test ≡ false). all_fails n test f) where
  pick : (t : Bool) → test n ≡ t → (all_below n test ≡ false → ((k : ℕ) × (k < n) × (test k ≡ false)))
      → ((k : ℕ) × (k < suc n) × (test k ≡ false))
  pick false t before = (n, omega arith, t)
  pick true t before =
      let r = before (sym (rw t) ∙ e) in
      (r.0, omega (arith, r.1), r.2)

pub sum_more : (i : ℕ) (f : ℕ → ℕ) (s : ℕ) → s ≡ sum_below i f → s + f i ≡ sum_below (i + 1) f
sum_more i f s e = rw (add-one, e)

-- the number that is counted, and the one that is not
pub counted : (i : ℕ) (test : ℕ → Bool) (s : ℕ) → s ≡ count_below i test → test i ≡ true → s + 1 ≡ count_below (i + 1) test
counted i test s e t = rw (add-one i, e, t)

pub skipped : (i : ℕ) (test : ℕ → Bool) (s : ℕ) → s ≡ count_below i test → test i ≡ false → s ≡ count_below (i + 1) test
skipped i test s e t = rw (add-one i, e, t) (omega arith)

-- ---- searches

-- the first number that passes: no number before it does
pub first_is : (n : ℕ) (test : ℕ → Bool) (k : ℕ) → k < n → test k ≡ true → ((j : ℕ) → j < k → test j ≡ false) → first_below n test ≡ k
first_is zero test k h e fails = absurd (not-suc-le-zero h)
first_is (suc n) test zero h e fails = rw e
first_is (suc n) test (suc k) h e fails =
    rw (fails 0 (omega arith))
    (ap suc (first_is n (λ i. test (suc i)) k (omega arith) e (λ j l. fails (suc j) (omega arith))))

-- a search that can find something does, and no later than that
pub first_true : (n : ℕ) (test : ℕ → Bool) (k : ℕ) → k < n → test k ≡ true → (first_below n test ≤ k) × (test (first_below n test) ≡ true)
first_true zero test k h e = absurd (not-suc-le-zero h)
first_true (suc n) test zero h e =
    by_test (λ (m : ℕ). (m ≤ 0) × (test m ≡ true)) (test 0) 0 (suc (first_below n (λ k. test (suc k))))
    (λ t. (omega arith, t)) (λ t. absurd (false≢true (sym t ∙ e)))
first_true (suc n) test (suc k) h e =
    let rest = first_true n (λ i. test (suc i)) k (omega arith) e in
    by_test (λ (m : ℕ). (m ≤ suc k) × (test m ≡ true)) (test 0) 0 (suc (first_below n (λ k. test (suc k))))
    (λ t. (omega arith, t)) (λ t. (omega (arith, rest.0), rest.1))

-- no number before it passes
pub first_fails : (n : ℕ) (test : ℕ → Bool) (j : ℕ) → j < n → j < first_below n test → test j ≡ false
first_fails n test j h l = pick (test j) refl where
  pick : (t : Bool) → test j ≡ t → test j ≡ false
  pick true t = absurd (omega (arith, (first_true n test j h t).0))
  pick false t = t

-- the last number that passes: no number after it does
pub last_is : (n : ℕ) (test : ℕ → Bool) (k : ℕ) → k < n → test k ≡ true → ((j : ℕ) → k < j → j < n → test j ≡ false) → last_below n test ≡ k
last_is zero test k h e fails = absurd (not-suc-le-zero h)
last_is (suc n) test k h e fails =
    elim (ℕ_discrete k n) [
      | yes q ↦ let t : test n ≡ true = rw q at e in rw (q, t)
      | no d ↦ rw (fails n (omega arith) (omega arith)) (last_is n test k (omega arith) e (λ j l m. fails j l (omega arith)))
    ]

pub last_most : (n : ℕ) (test : ℕ → Bool) (k : ℕ) → k < n → test k ≡ true → k ≤ last_below n test
last_most zero test k h e = absurd (not-suc-le-zero h)
last_most (suc n) test k h e =
    by_test (λ (m : ℕ). k ≤ m) (test n) n (last_below n test) (λ t. omega arith)
    (λ t.
    elim (ℕ_discrete k n) [
      | yes q ↦ let f : test n ≡ true = rw q at e in absurd (false≢true (sym t ∙ f))
      | no d ↦ last_most n test k (omega arith) e
    ])

pub last_lt : (n : ℕ) (test : ℕ → Bool) → 0 < n → last_below n test < n
last_lt n test h = omega (arith, last_le n test) where
  last_le : (n : ℕ) (test : ℕ → Bool) → last_below n test ≤ n - 1
  last_le zero test = omega arith
  last_le (suc n) test = pick (test n) (last_le n test) where
    pick : (t : Bool) → last_below n test ≤ n - 1 → cond t n (last_below n test) ≤ suc n - 1
    pick true l = omega arith
    pick false l = omega arith

pub last_fails : (n : ℕ) (test : ℕ → Bool) (j : ℕ) → j < n → last_below n test < j → test j ≡ false
last_fails n test j h l = pick (test j) refl where
  pick : (t : Bool) → test j ≡ t → test j ≡ false
  pick true t = absurd (omega (arith, last_most n test j h t))
  pick false t = t

-- a search that can find something does
pub last_true : (n : ℕ) (test : ℕ → Bool) (i : ℕ) → i < n → test i ≡ true → test (last_below n test) ≡ true
last_true zero test i h e = absurd (not-suc-le-zero h)
last_true (suc n) test i h e = pick (test n) refl (λ (l : i < n). last_true n test i l e) where
  pick : (t : Bool) → test n ≡ t → (i < n → test (last_below n test) ≡ true) → test (cond t n (last_below n test)) ≡ true
  pick true t before = t
  pick false t before =
      elim (ℕ_discrete i n) [
        | yes q ↦ let f : test n ≡ true = rw q at e in absurd (false≢true (sym t ∙ f))
        | no d ↦ before (omega arith)
      ]

-- ---- sums

pub sum-le : (m n : ℕ) (f : ℕ → ℕ) → m ≤ n → sum_below m f ≤ sum_below n f
sum-le m zero f h = let e : m ≡ 0 = omega arith in rw e (omega arith)
sum-le m (suc n) f h =
    elim (ℕ_discrete m (suc n)) [
      | yes e ↦ rw e (omega arith)
      | no d ↦ omega (arith, sum-le m n f (omega arith))
    ]

pub sum_some : (n : ℕ) (f : ℕ → ℕ) → 0 < sum_below n f → ((i : ℕ) × (i < n) × (0 < f i))
sum_some zero f h = absurd (omega arith)
sum_some (suc n) f h =
    elim (ℕ_discrete (f n) 0) [
      | yes e ↦ let r = sum_some n f (omega arith) in (r.0, omega (arith, r.1), r.2)
      | no d ↦ (n, omega arith, omega arith)
    ]

-- a number that passes a test counts, and one that counts passes it
pub bit_some : (t : Bool) → t ≡ true → 0 < cond t 1 0
bit_some t e = rw e (omega arith)

pub some_bit : (t : Bool) → 0 < cond t 1 0 → t ≡ true
some_bit true h = refl
some_bit false h = absurd (omega arith)

-- the terms of two numbers count for two
sum_two : (n : ℕ) (f : ℕ → ℕ) (i j : ℕ) → i < j → j < n → 0 < f i → 0 < f j → 1 < sum_below n f
sum_two n f i j m l p q = omega (arith, sum-le (suc i) j f m, sum-le (suc j) n f l)

-- where a sum is 1, one number counts alone
pub sum-once : (n : ℕ) (f : ℕ → ℕ) → sum_below n f ≤ 1 → (i j : ℕ) → i < n → j < n → 0 < f i → 0 < f j → i ≡ j
sum-once n f once i j h l p q = order (ltb i j) refl where
  order : (t : Bool) → ltb i j ≡ t → i ≡ j
  order true t = absurd (omega (arith, sum_two n f i j (ltb-true i j t) l p q, once))
  order false t =
      ⊎_elim sym (λ (k : j < i). absurd (omega (arith, sum_two n f j i k h q p, once))) (eq-or-lt_of_le (ltb-false i j t))

-- a term is no more than the sum, and a sum with one term of 1 and no other is 1
pub sum_term : (n : ℕ) (f : ℕ → ℕ) (i : ℕ) → i < n → f i ≤ sum_below n f
sum_term n f i h = omega (arith, sum-le (suc i) n f h)

pub sum_none : (n : ℕ) (f : ℕ → ℕ) → ((j : ℕ) → j < n → f j ≡ 0) → sum_below n f ≡ 0
sum_none zero f e = refl
sum_none (suc n) f e = omega (arith, sum_none n f (λ j h. e j (omega arith)), e n (omega arith))

pub sum_one : (n : ℕ) (f : ℕ → ℕ) (i : ℕ) → i < n → f i ≡ 1 → ((j : ℕ) → j < n → (j ≡ i → ⊥) → f j ≡ 0) → sum_below n f ≡ 1
sum_one zero f i h e others = absurd (not-suc-le-zero h)
sum_one (suc n) f i h e others =
    elim (ℕ_discrete i n) [
      | yes q ↦ let last : f n ≡ 1 = rw q at e in
          omega (arith, sum_none n f (λ j l. others j (omega arith) (λ p. absurd (omega arith))))
      | no d ↦ omega (arith, sum_one n f i (omega arith) e (λ j l p. others j (omega arith) p), others n (omega arith) (λ p. d (sym p)))
    ]

pub sum_cong : (n : ℕ) (f g : ℕ → ℕ) → ((i : ℕ) → i < n → f i ≡ g i) → sum_below n f ≡ sum_below n g
sum_cong zero f g e = refl
sum_cong (suc n) f g e = rw (sum_cong n f g (λ i h. e i (omega arith)), e n (omega arith))

sum-add : (n : ℕ) (f g : ℕ → ℕ) → sum_below n (λ i. f i + g i) ≡ sum_below n f + sum_below n g
sum-add zero f g = refl
sum-add (suc n) f g = omega (arith, sum-add n f g)

-- a table's sum by rows and by columns
pub sum_swap : (n m : ℕ) (f : ℕ → ℕ → ℕ) → sum_below n (λ i. sum_below m (f i)) ≡ sum_below m (λ j. sum_below n (λ i. f i j))
sum_swap zero m f = sym (sum_none m (λ j. 0) (λ j h. refl))
sum_swap (suc n) m f = rw (sum_swap n m f) (sym (sum-add m (λ j. sum_below n (λ i. f i j)) (f n)))

pub sum_ones : (n : ℕ) → sum_below n (λ i. 1) ≡ n
sum_ones zero = refl
sum_ones (suc n) = omega (arith, sum_ones n)

-- terms of at most m each
pub sum-most : (n m : ℕ) (f : ℕ → ℕ) → ((k : ℕ) → f k ≤ m) → sum_below n f ≤ n * m
sum-most zero m f e = omega arith
sum-most (suc n) m f e = rw suc-mul (omega (arith, sum-most n m f e, e n))

-- the next m terms are a sum of their own
pub sum-parts : (n m : ℕ) (f : ℕ → ℕ) → sum_below (n + m) f ≡ sum_below n f + sum_below m (λ i. f (n + i))
sum-parts n zero f = let e : n + 0 ≡ n = omega arith in rw e (omega arith)
sum-parts n (suc m) f =
    let e : n + suc m ≡ suc (n + m) = omega arith in
    rw (e, sum-parts n m f) (omega arith)

-- a sum of n times k terms, k by k
pub sum_blocks : (n k : ℕ) (f : ℕ → ℕ) → sum_below (n * k) f ≡ sum_below n (λ i. sum_below k (λ j. f (i * k + j)))
sum_blocks zero k f = let e : 0 * k ≡ 0 = omega arith in rw e
sum_blocks (suc n) k f = rw (suc-mul, sum-parts (n * k) k f, sum_blocks n k f)
