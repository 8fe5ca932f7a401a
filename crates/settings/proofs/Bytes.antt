-- What a step is, told by its first bytes once its size is known; and the registers that are marked as written.
-- Assumes nothing.
use mathlib.Core.Path.{◌≡◌, refl, sym, ap, ◌∙◌}
use mathlib.Core.Bool.{Bool, true, false, cond, ◌||◌, or-true, or-false}
use mathlib.Core.List.{List}
use Prim.Native.Nat.{ℕ, ◌+◌, ◌*◌, ◌≤◌, ◌<◌}
use native.Mathlib.Nat.{add-zero}
use native.Mathlib.Decide.{ℕ_discrete, dec_le}
use native.Mathlib.Omega.{arith}
use borrow.Author.Tests.{eq-eqb, ne_eqb}
use lib.Dec.{eqb}
use lib.ListN.{length, get_or, drop, set, length-drop, length-set}
use lib.Seq.{get_or-drop, get_or-set_same, get_or-set_other}
use Rattle.std.specs.Prelude.{Some, None}
use Rattle.lists.proofs.Rules.{by_test}
use Rattle.panel.specs.Registers.{data_length}
use Rattle.panel.proofs.Registers.{no_register}
use Rattle.settings.specs.Settings.{Step, write, wait, malformed, step_of}
use Rattle.settings.specs.Facts.{kind_of, kind_size, kind_by, size_found, marked}
use Rattle.settings.specs.declared.Kind.{Kind}
use Rattle.settings.specs.declared.Kind.TheVariants.{Write, Wait}
use Rattle.settings.proofs.Steps.{step_bytes_lem, kind_writes}

-- a register that takes data is one of the nine
a_register : (register : ℕ) → 0 < data_length register → register < 10
a_register register some =
    elim (dec_le 10 register) [
      | yes h ↦ absurd (omega (arith, no_register register h))
      | no h ↦ omega arith
    ]

-- no size, no kind
pub size_none : (step : Step) → None ≡ size_found step → None ≡ kind_of step
size_none (write r d) e = cc
size_none (wait ms) e = cc
size_none malformed e = refl

-- a size is that of the kind
pub size_kind : (step : Step) {z : ℕ} {kind : Kind} → Some z ≡ size_found step → Some kind ≡ kind_of step → z ≡ kind_size kind
size_kind (write r d) {z} {kind} e k =
    let q : kind ≡ Write r = cc in
    let n : z ≡ 2 + data_length r = cc in
    n ∙ sym (ap kind_size q)
size_kind (wait ms) {z} {kind} e k =
    let q : kind ≡ Wait ms = cc in
    let n : z ≡ 3 = cc in
    n ∙ sym (ap kind_size q)
size_kind malformed e k = cc

-- a step at index `at` of a file has three bytes or more, which tell its kind; the second is the register of a write, one of the nine, or the
-- high byte of a wait
pub told : (panel : ℕ) (file : List ℕ) (at : ℕ) {z : ℕ} → Some z ≡ size_found (step_of panel (drop at file))
    → (at + 3 ≤ length file)
    × (Some (kind_by (get_or file at 0) (get_or file (at + 1) 0) (get_or file (at + 2) 0)) ≡ kind_of (step_of panel (drop at file)))
    × (get_or file (at + 1) 0 < 10)
told panel file at {z} =
    let s = drop at file in
    let tag : get_or s 0 0 ≡ get_or file at 0 = rw (get_or-drop, add-zero) in
    let first : get_or s 1 0 ≡ get_or file (at + 1) 0 = get_or-drop at file 1 0 in
    let second : get_or s 2 0 ≡ get_or file (at + 2) 0 = get_or-drop at file 2 0 in
    let kind = kind_by (get_or file at 0) (get_or file (at + 1) 0) (get_or file (at + 2) 0) in
    step_bytes_lem panel s (λ step. Some z ≡ size_found step → (at + 3 ≤ length file) × (Some kind ≡ kind_of step) × (get_or file (at + 1) 0 < 10))
    (λ t n e some fits q.
    let small : get_or s 1 0 < 10 = a_register (get_or s 1 0) (omega (arith, e)) in (
      omega (arith, length-drop at file),
      rw (first, eq-eqb (get_or file at 0) 0x57 (sym tag ∙ t)),
      omega arith,
    ))
    (λ t ms e long low high q. (
      omega (arith, length-drop at file),
      rw (e, first, second, ne_eqb (get_or file at 0) 0x57 (λ w. absurd (omega arith))),
      omega arith,
    ))
    (λ q. cc)

-- ---- registers that are marked

mark_set : (register : ℕ) (written : List Bool) → register < length written → (k : ℕ)
    → get_or (set written register true) k false ≡ (get_or written k false || eqb register k)
mark_set register written h k =
    elim (ℕ_discrete register k) [
      | yes e ↦ rw (← e, get_or-set_same written register true false h, eq-eqb register register refl, or-true)
      | no d ↦ rw (get_or-set_other written register k true false (λ q. d (sym q)), ne_eqb register k d, or-false)
    ]

mark_if : (writes : Bool) (register ms : ℕ) (written : List Bool) → register < length written → (k : ℕ)
    → get_or (cond writes (set written register true) written) k false
    ≡ (get_or written k false || kind_writes k (cond writes (Write register) (Wait ms)))
mark_if true register ms written h k = mark_set register written h k
mark_if false register ms written h k = sym (or-false (get_or written k false))

-- the register of the kind that the first three bytes tell
pub mark_at : (tag first second : ℕ) (written : List Bool) → first < length written → (k : ℕ)
    → get_or (marked tag first written) k false ≡ (get_or written k false || kind_writes k (kind_by tag first second))
mark_at tag first second written h k = mark_if (eqb tag 0x57) first (first * 256 + second) written h k

pub mark_length : (tag register : ℕ) (written : List Bool) → length (marked tag register written) ≡ length written
mark_length tag register written =
    by_test (λ l. length l ≡ length written) (eqb tag 0x57) (set written register true) written
    (λ e. length-set written register true)
    (λ e. refl)
