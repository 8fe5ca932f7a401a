-- The waits before the next write, and that write, step by step.
-- Assumes nothing.
use mathlib.Core.Path.{◌≡◌, refl, sym, ap, ◌∙◌}
use mathlib.Core.List.{List, ◌∷◌}
use Prim.Native.Nat.{ℕ, ◌+◌, ◌-◌, ◌*◌, ◌≤◌, ◌<◌}
use native.Mathlib.Omega.{arith}
use lib.ListN.{length, drop}
use Rattle.settings.specs.Settings.{Step, write, wait, malformed, step_of, size_of, steps_of, rest_of}
use Rattle.settings.specs.Steps.{waits_before, from_write}
use Rattle.settings.specs.Facts.{kind_of, Found}
use Rattle.std.specs.Prelude.{Option, Some, None}
use Rattle.settings.specs.declared.Kind.{Kind}
use Rattle.settings.specs.declared.Kind.TheVariants.{Write, Wait}
use Rattle.settings.specs.declared.NextWrite.{NextWrite}
use Rattle.settings.proofs.Steps.{step_wait, length_steps, drop_steps, Turn, next_steps, next_fits}

-- a write is no wait, and neither is what is no step
pub write_no_wait : {kind : Option Kind} {register : ℕ} → Some (Write register) ≡ kind → (ms : ℕ) → kind ≡ Some (Wait ms) → ⊥
write_no_wait e ms is = cc

pub none_no_wait : {kind : Option Kind} → None ≡ kind → (ms : ℕ) → kind ≡ Some (Wait ms) → ⊥
none_no_wait e ms is = cc

-- at a step that is no wait nothing is waited, and the steps from the next write on are these
no_waits : (step : Step) (steps : List Step) → ((ms : ℕ) → kind_of step ≡ Some (Wait ms) → ⊥) → waits_before (step ∷ steps) ≡ 0
no_waits (write r d) steps h = refl
no_waits (wait n) steps h = absurd (h n refl)
no_waits malformed steps h = refl

from_here : (step : Step) (steps : List Step) → ((ms : ℕ) → kind_of step ≡ Some (Wait ms) → ⊥) → from_write (step ∷ steps) ≡ step ∷ steps
from_here (write r d) steps h = refl
from_here (wait n) steps h = absurd (h n refl)
from_here malformed steps h = refl

module _ (panel : ℕ) (file : List ℕ) (at n : ℕ) where
  -- past a wait
  pub past_wait : (ms : ℕ) → 0 < n → Some (Wait ms) ≡ kind_of (step_of panel (drop at file))
      → (steps_of panel n (drop at file) ≡ wait ms ∷ steps_of panel (n - 1) (drop (at + 3) file)) × Turn panel file at n 3
  past_wait ms more read =
      let is = (step_wait panel ms (drop at file) (sym read)).0 in
      let turn : Turn panel file at n 3 = record { more = more; sized = sym (ap size_of is) } in
      (next_steps turn ∙ ap (λ step. step ∷ steps_of panel (n - 1) (drop (at + 3) file)) is, turn)

  -- at another step
  module _ (more : 0 < n) (other : (ms : ℕ) → kind_of (step_of panel (drop at file)) ≡ Some (Wait ms) → ⊥) where
    here : Turn panel file at n (size_of (step_of panel (drop at file)))
    here = record { more = more; sized = refl }

    pub no_wait_here : waits_before (steps_of panel n (drop at file)) ≡ 0
    no_wait_here = ap waits_before (next_steps here) ∙ no_waits (step_of panel (drop at file)) (steps_of panel (n - 1) _) other

    pub write_here : from_write (steps_of panel n (drop at file)) ≡ steps_of panel n (drop at file)
    write_here =
        ap from_write (next_steps here)
        ∙ from_here (step_of panel (drop at file)) (steps_of panel (n - 1) _) other
        ∙ sym (next_steps here)

-- n steps from index `first` on, of which `left` are left, from index `at` on, after waits of so many ms
pub record Waiting (panel n first : ℕ) (file : List ℕ) (left at waits : ℕ) : Type 0 where
  pub within : at ≤ length file
  pub together : waits + waits_before (steps_of panel left (drop at file)) ≡ waits_before (steps_of panel n (drop first file))
  pub same : from_write (steps_of panel left (drop at file)) ≡ from_write (steps_of panel n (drop first file))
  pub fewer : left ≤ n
  pub small : waits + 65535 * left ≤ 65535 * n

pub waiting_none : (panel n at : ℕ) (file : List ℕ) → at ≤ length file → Waiting panel n at file n at 0
waiting_none panel n at file h = record { within = h; together = omega arith; same = refl; fewer = omega arith; small = omega arith }

module _ {panel n first : ℕ} {file : List ℕ} {left at waits : ℕ} (waiting : Waiting panel n first file left at waits) where
  -- past a wait
  pub waiting_more : {ms after : ℕ} → 0 < left → Some (Wait ms) ≡ kind_of (step_of panel (drop at file)) → after ≡ left - 1
      → Waiting panel n first file after (at + 3) (waits + ms)
  waiting_more {ms} more read is =
      let passed = past_wait panel file at left ms more read in
      let w = waiting in
      let low = (step_wait panel ms (drop at file) (sym read)).2 in
      rw is
      (record {
        within = next_fits passed.1 w.within;
        together = omega (arith, ap waits_before passed.0, w.together);
        same = sym (ap from_write passed.0) ∙ w.same;
        fewer = omega arith;
        small = omega arith;
      })

  -- at another step
  module _ (small : n ≤ 255) where
    pub found_here : 0 < left → ((ms : ℕ) → kind_of (step_of panel (drop at file)) ≡ Some (Wait ms) → ⊥)
        → Found panel file (steps_of panel n (drop first file)) (record { waits = waits; write = Some (record { at = at; left = left }) })
    found_here more other =
        let w = waiting in
        record {
          waits = omega (arith, no_wait_here panel file at left more other, w.together);
          small = omega arith;
          write = record {
            rest = sym (write_here panel file at left more other) ∙ w.same;
            within = w.within;
            some = more;
            few = omega (arith, length_steps panel n (drop first file));
          };
        }

    -- past all
    pub found_none : left ≡ 0 → Found panel file (steps_of panel n (drop first file)) (record { waits = waits; write = None })
    found_none e =
        let w = waiting in
        let together = rw e at w.together in
        record { waits = omega arith; small = omega arith; write = sym (rw e at w.same) }

-- from step k on: the first k steps end at index `end`
pub found_from : (panel : ℕ) (file : List ℕ) (at n k end : ℕ) (r : NextWrite) → k ≤ n → drop end file ≡ rest_of panel k (drop at file)
    → Found panel file (steps_of panel (n - k) (drop end file)) r → Found panel file (drop k (steps_of panel n (drop at file))) r
found_from panel file at n k end r h rest found = rw (drop_steps panel k n (drop at file) h, ← rest) found
