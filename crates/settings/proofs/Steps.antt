-- Laws of single steps, and of a list of steps that is passed one by one.
-- Assumes nothing.
use mathlib.Core.Path.{◌≡◌, refl, sym, ap, ◌∙◌}
use mathlib.Core.Bool.{Bool, true, false, cond, ◌&&◌, ◌||◌, or_assoc, or-false}
use mathlib.Core.List.{List, [], ◌∷◌}
use Prim.Native.Nat.{ℕ, zero, suc, ◌+◌, ◌-◌, ◌*◌, ◌≤◌, ◌<◌}
use native.Mathlib.Nat.{sub-zero, suc-sub-suc}
use native.Mathlib.Numerals.{sub-one}
use native.Mathlib.Omega.{arith}
use borrow.Author.Tests.{leb-true, ltb-true, eqb-true}
use lib.Dec.{eqb, leb, ltb}
use lib.ListN.{length, get_or, take, drop, length-take, length-drop}
use lib.Seq.{drop-drop}
use Rattle.lists.proofs.Rules.{and_left, and_right, by_test}
use Rattle.panel.specs.Registers.{data_length}
use Rattle.panel.proofs.Registers.{data_length-le}
use Rattle.settings.specs.Settings.{Step, write, wait, malformed, has_prefix, required_data, write_of, wait_of, step_of, size_of, steps_of, rest_of, is_step, all_steps, is_write_to, writes_to}
use Rattle.settings.specs.Facts.{kind_of, kind_size, StepsPassed}
use Rattle.std.specs.Prelude.{Some, None, Ok, Err}
use Rattle.settings.specs.declared.Kind.{Kind}
use Rattle.settings.specs.declared.Kind.TheVariants.{Write, Wait}

-- ---- what a step can be

-- the step that s begins with, by its bytes: a write with its data, a wait of 1 to 1,000 ms, or malformed
pub step_bytes_lem : (panel : ℕ) (s : List ℕ) (P : Step → Type 0)
    → (get_or s 0 0 ≡ 0x57 → (n : ℕ) → n ≡ data_length (get_or s 1 0) → 0 < n → 2 + n ≤ length s
    → P (write (get_or s 1 0) (take n (drop 2 s))))
    → (get_or s 0 0 ≡ 0x44 → (ms : ℕ) → ms ≡ get_or s 1 0 * 256 + get_or s 2 0 → 3 ≤ length s → 1 ≤ ms → ms ≤ 1000
    → P (wait ms))
    → P malformed
    → P (step_of panel s)
unfolding step_of write_of wait_of
step_bytes_lem panel s P if_write if_wait none =
    let tag = get_or s 0 0 in
    let r = get_or s 1 0 in
    let n = data_length r in
    let ms = r * 256 + get_or s 2 0 in
    let within = leb n (length (drop 2 s)) in
    let good = has_prefix (drop 2 s) (required_data panel r) in
    let writes = cond (ltb 0 n && within && good) (write r (take n (drop 2 s))) malformed in
    let waits = cond (eqb tag 0x44) (cond (leb 1 ms && leb ms 1000) (wait ms) malformed) malformed in
    by_test P (leb 3 (length s)) (cond (eqb tag 0x57) writes waits) malformed
    (λ e.
    let long : 3 ≤ length s = leb-true _ _ e in
    by_test P (eqb tag 0x57) writes waits
    (λ t.
    by_test P (ltb 0 n && within && good) (write r (take n (drop 2 s))) malformed
    (λ q.
    let both = and_left (ltb 0 n && within) good q in
    let fits : n ≤ length (drop 2 s) = leb-true _ _ (and_right (ltb 0 n) within both) in
    if_write (eqb-true _ _ t) n refl (ltb-true _ _ (and_left (ltb 0 n) within both)) (omega (arith, length-drop 2 s)))
    (λ q. none))
    (λ t.
    by_test P (eqb tag 0x44) (cond (leb 1 ms && leb ms 1000) (wait ms) malformed) malformed
    (λ u.
    by_test P (leb 1 ms && leb ms 1000) (wait ms) malformed
    (λ q.
    if_wait (eqb-true _ _ u) ms refl long
    (leb-true _ _ (and_left (leb 1 ms) (leb ms 1000) q))
    (leb-true _ _ (and_right (leb 1 ms) (leb ms 1000) q)))
    (λ q. none))
    (λ u. none)))
    (λ e. none)

-- the same, whatever the bytes
pub step_cases : (panel : ℕ) (s : List ℕ) (P : Step → Type 0)
    → ((register n : ℕ) → n ≡ data_length register → 0 < n → 2 + n ≤ length s → P (write register (take n (drop 2 s))))
    → ((ms : ℕ) → 3 ≤ length s → 1 ≤ ms → ms ≤ 1000 → P (wait ms))
    → P malformed
    → P (step_of panel s)
step_cases panel s P if_write if_wait = step_bytes_lem panel s P (λ t. if_write (get_or s 1 0)) (λ t ms e. if_wait ms)

-- it lies within s
pub size_fits : (panel : ℕ) (s : List ℕ) → size_of (step_of panel s) ≤ length s
size_fits panel s =
    step_cases panel s (λ step. size_of step ≤ length s) (λ r n e some h. omega arith) (λ ms h low high. h) (omega arith)

-- ---- a step and its kind

-- no kind
pub kind_none : (step : Step) → None ≡ kind_of step → step ≡ malformed
kind_none (write r d) e = cc
kind_none (wait ms) e = cc
kind_none malformed e = refl

-- a kind
pub kind_some : (step : Step) {kind : Kind} → Some kind ≡ kind_of step → (kind_size kind ≡ size_of step) × (is_step step ≡ true)
kind_some (write r d) {kind} e = let q : kind ≡ Write r = cc in (ap kind_size q, refl)
kind_some (wait ms) {kind} e = let q : kind ≡ Wait ms = cc in (ap kind_size q, refl)
kind_some malformed e = cc

-- the registers that it writes
abbrev pub kind_writes : (register : ℕ) → Kind → Bool
kind_writes register (Write r) = eqb r register
kind_writes register (Wait ms) = false

kind_writes_lem : (step : Step) (register : ℕ) {kind : Kind} → Some kind ≡ kind_of step → kind_writes register kind ≡ is_write_to register step
kind_writes_lem (write r d) register {kind} e = let q : kind ≡ Write r = cc in ap (kind_writes register) q
kind_writes_lem (wait ms) register {kind} e = let q : kind ≡ Wait ms = cc in ap (kind_writes register) q
kind_writes_lem malformed register e = cc

-- a step of which only the kind is known: a write has the bytes that follow its first two, a wait is 1 to 1,000 ms
pub step_write : (panel register : ℕ) (s : List ℕ) → kind_of (step_of panel s) ≡ Some (Write register)
    → step_of panel s ≡ write register (take (data_length register) (drop 2 s))
step_write panel register s =
    step_cases panel s (λ step. kind_of step ≡ Some (Write register) → step ≡ write register (take (data_length register) (drop 2 s)))
    (λ r n e some h k. let q : r ≡ register = cc in rw (e, q))
    (λ ms h low high k. cc)
    (λ k. cc)

pub step_wait : (panel ms : ℕ) (s : List ℕ) → kind_of (step_of panel s) ≡ Some (Wait ms)
    → (step_of panel s ≡ wait ms) × (1 ≤ ms) × (ms ≤ 1000)
step_wait panel ms s =
    step_cases panel s (λ step. kind_of step ≡ Some (Wait ms) → (step ≡ wait ms) × (1 ≤ ms) × (ms ≤ 1000))
    (λ r n e some h k. cc)
    (λ m h low high k. let q : m ≡ ms = cc in (rw q, omega arith, omega arith))
    (λ k. cc)

-- a write at an index of a file lies in the file
pub write_fits : (panel : ℕ) (file : List ℕ) (at register : ℕ) → kind_of (step_of panel (drop at file)) ≡ Some (Write register)
    → at ≤ length file → at + 2 + data_length register ≤ length file
write_fits panel file at register e h =
    let fits : size_of (write register (take (data_length register) (drop 2 (drop at file)))) ≤ length (drop at file) =
    rw (step_write panel register (drop at file) e) at (size_fits panel (drop at file)) in
    omega (arith, fits, length-drop at file)

-- and its data stand from index `at` + 2 on
pub write_data : (panel : ℕ) (file : List ℕ) (at register : ℕ) → kind_of (step_of panel (drop at file)) ≡ Some (Write register)
    → (n : ℕ) → n ≡ data_length register → step_of panel (drop at file) ≡ write register (take n (drop (at + 2) file))
write_data panel file at register e n d = step_write panel register (drop at file) e ∙ rw (d, drop-drop 2 at file)

-- which are at most eight bytes
pub data_short : (panel : ℕ) (s : List ℕ) {register : ℕ} {bytes : List ℕ} → step_of panel s ≡ write register bytes → length bytes ≤ 8
data_short panel s {register} {bytes} =
    step_cases panel s (λ step. step ≡ write register bytes → length bytes ≤ 8)
    (λ r n e some h q.
    let same : take n (drop 2 s) ≡ bytes = cc in
    rw (← same) (omega (arith, length-take n (drop 2 s), data_length-le r)))
    (λ ms h low high q. cc)
    (λ q. cc)

-- ---- lists of steps

pub length_steps : (panel n : ℕ) (s : List ℕ) → length (steps_of panel n s) ≡ n
length_steps panel zero s = refl
length_steps panel (suc n) s = ap suc (length_steps panel n (drop (size_of (step_of panel s)) s))

-- past k steps
pub drop_steps : (panel k n : ℕ) (s : List ℕ) → k ≤ n → drop k (steps_of panel n s) ≡ steps_of panel (n - k) (rest_of panel k s)
drop_steps panel zero n s h = rw sub-zero
drop_steps panel (suc k) zero s h = absurd (omega arith)
drop_steps panel (suc k) (suc n) s h = drop_steps panel k n (drop (size_of (step_of panel s)) s) (omega arith) ∙ rw suc-sub-suc

steps_next : (panel n : ℕ) (s : List ℕ) → 0 < n
    → steps_of panel n s ≡ step_of panel s ∷ steps_of panel (n - 1) (drop (size_of (step_of panel s)) s)
steps_next panel zero s h = absurd (omega arith)
steps_next panel (suc n) s h = rw sub-one

rest_next : (panel n : ℕ) (s : List ℕ) → 0 < n → rest_of panel n s ≡ rest_of panel (n - 1) (drop (size_of (step_of panel s)) s)
rest_next panel zero s h = absurd (omega arith)
rest_next panel (suc n) s h = rw sub-one

-- where there is no step, the rest stays
rest_stuck : (panel n : ℕ) (s : List ℕ) → step_of panel s ≡ malformed → rest_of panel n s ≡ s
rest_stuck panel zero s h = refl
rest_stuck panel (suc n) s h = rw h (rest_stuck panel n s h)

-- one turn of a loop over n steps, at index `at` of a file: z is the size of the step
pub record Turn (panel : ℕ) (file : List ℕ) (at n z : ℕ) : Type 0 where
  pub more : 0 < n
  pub sized : z ≡ size_of (step_of panel (drop at file))

module _ {panel : ℕ} {file : List ℕ} {at n z : ℕ} (turn : Turn panel file at n z) where
  pub next_fits : at ≤ length file → at + z ≤ length file
  next_fits h = omega (arith, turn.sized, size_fits panel (drop at file), length-drop at file)

  pub next_steps : steps_of panel n (drop at file) ≡ step_of panel (drop at file) ∷ steps_of panel (n - 1) (drop (at + z) file)
  next_steps = steps_next panel n (drop at file) turn.more ∙ rw (drop-drop, ← turn.sized)

  pub next_rest : rest_of panel n (drop at file) ≡ rest_of panel (n - 1) (drop (at + z) file)
  next_rest = rest_next panel n (drop at file) turn.more ∙ rw (drop-drop, ← turn.sized)

  pub next_all : is_step (step_of panel (drop at file)) ≡ true
      → all_steps (steps_of panel n (drop at file)) ≡ all_steps (steps_of panel (n - 1) (drop (at + z) file))
  next_all h = rw (next_steps, h)

  -- a register is written up to this step or after it just when it was written before or is by one of the n steps
  pub next_writes : (register : ℕ) (before : Bool) {so_far : Bool} → so_far ≡ (before || is_write_to register (step_of panel (drop at file)))
      → (so_far || writes_to register (steps_of panel (n - 1) (drop (at + z) file)))
      ≡ (before || writes_to register (steps_of panel n (drop at file)))
  next_writes register before e = rw (e, or_assoc, next_steps)

-- no step stands at index `at` of a file
module _ (panel : ℕ) (file : List ℕ) (at n : ℕ) (stuck : step_of panel (drop at file) ≡ malformed) where
  pub stuck_all : 0 < n → all_steps (steps_of panel n (drop at file)) ≡ false
  stuck_all h = rw (steps_next panel n (drop at file) h, stuck)

  pub stuck_rest : rest_of panel n (drop at file) ≡ drop at file
  stuck_rest = rest_stuck panel n (drop at file) stuck

-- n steps from index `at` on, of which `left` are left, from index `end` on: what is known of those that were passed
pub record Passing (panel n at : ℕ) (file : List ℕ) (left end : ℕ) (channels level : Bool) : Type 0 where
  pub within : end ≤ length file
  pub all : all_steps (steps_of panel left (drop end file)) ≡ all_steps (steps_of panel n (drop at file))
  pub rest : rest_of panel left (drop end file) ≡ rest_of panel n (drop at file)
  pub channels_is : (channels || writes_to 0x01 (steps_of panel left (drop end file))) ≡ writes_to 0x01 (steps_of panel n (drop at file))
  pub level_is : (level || writes_to 0x04 (steps_of panel left (drop end file))) ≡ writes_to 0x04 (steps_of panel n (drop at file))

pub passing_none : (panel n at : ℕ) (file : List ℕ) → at ≤ length file → Passing panel n at file n at false false
passing_none panel n at file h = record { within = h; all = refl; rest = refl; channels_is = refl; level_is = refl }

module _ {panel n at : ℕ} {file : List ℕ} {left end : ℕ} {channels level : Bool} (passing : Passing panel n at file left end channels level) where
  -- past one more step, of this kind
  pub passing_more : {kind : Kind} {after z : ℕ} {channels' level' : Bool} → 0 < left → Some kind ≡ kind_of (step_of panel (drop end file))
      → after ≡ left - 1 → z ≡ kind_size kind
      → channels' ≡ kind_writes 0x01 kind → level' ≡ kind_writes 0x04 kind
      → Passing panel n at file after (end + z) (channels || channels') (level || level')
  passing_more {z = z} more read is size c l =
      let some = kind_some (step_of panel (drop end file)) read in
      let writes = λ (register : ℕ). kind_writes_lem (step_of panel (drop end file)) register read in
      let turn : Turn panel file end left z = record { more = more; sized = size ∙ some.0 } in
      rw is
      (record {
        within = next_fits turn passing.within;
        all = sym (next_all turn some.1) ∙ passing.all;
        rest = sym (next_rest turn) ∙ passing.rest;
        channels_is = next_writes turn 0x01 channels (ap (λ w. channels || w) (c ∙ writes 0x01)) ∙ passing.channels_is;
        level_is = next_writes turn 0x04 level (ap (λ w. level || w) (l ∙ writes 0x04)) ∙ passing.level_is;
      })

  pub passing_fits : {kind : Kind} {z : ℕ} → 0 < left → Some kind ≡ kind_of (step_of panel (drop end file)) → z ≡ kind_size kind
      → end + z ≤ length file
  passing_fits {z = z} more read size =
      let turn : Turn panel file end left z =
      record { more = more; sized = size ∙ (kind_some (step_of panel (drop end file)) read).0 } in
      next_fits turn passing.within

  -- where no step stands
  pub passing_stuck : 0 < left → None ≡ kind_of (step_of panel (drop end file)) → StepsPassed panel n at file (Err end)
  passing_stuck more read =
      let stuck = kind_none (step_of panel (drop end file)) read in
      record {
        good = sym (stuck_all panel file end left stuck more) ∙ passing.all;
        passed = tt;
        stuck = record { within = passing.within; rest = sym (stuck_rest panel file end left stuck) ∙ passing.rest };
      }

  -- past all
  pub passing_over : left ≡ 0 → StepsPassed panel n at file (Ok (record { end = end; channels = channels; level = level }))
  passing_over e =
      record {
        good = rw e at passing.all;
        passed = record {
          ends = record { within = passing.within; rest = rw e at passing.rest };
          channels = sym (or-false channels) ∙ rw e at passing.channels_is;
          level = sym (or-false level) ∙ rw e at passing.level_is;
        };
        stuck = tt;
      }

-- where all are steps, so are those after the first k
pub all_from : (k : ℕ) (steps : List Step) → all_steps steps ≡ true → all_steps (drop k steps) ≡ true
all_from zero steps e = e
all_from (suc k) [] e = e
all_from (suc k) (step ∷ steps) e = all_from k steps (and_right (is_step step) (all_steps steps) e)
