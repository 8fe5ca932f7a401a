-- What a valid state keeps, one condition by one, and how `plan_state` finds it. Only this file knows in which order the conditions stand.
-- Assumes nothing.
use mathlib.Core.Path.{◌≡◌, refl, sym, ap, subst, ◌∙◌}
use mathlib.Core.Bool.{Bool, true, false, not}
use mathlib.Core.Logic.{◌⊎◌, inl, inr}
use mathlib.Core.List.{List}
use Prim.Native.Nat.{ℕ, ◌-◌, ◌≤◌, ◌<◌}
use native.Mathlib.Omega.{arith}
use borrow.Author.Tests.{leb-true, le-leb, lt-leb, not-true}
use lib.ListN.{length, get_or, take}
use lib.Seq.{length-take-le}
use Rattle.std.specs.Prelude.{Some, None, slice_range}
use Rattle.std.specs.Bool.{then_some}
use Rattle.lists.specs.Rules.{every}
use Rattle.lists.proofs.Rules.{broken, holds, none, keep, all_kept}
use Rattle.settings.specs.Settings.{settings_good, shape_in}
use Rattle.settings.specs.Plans.{PlanOf}
use Rattle.settings.specs.Kept.{file_in}
use Rattle.settings.specs.declared.Plan.{Plan}
use Rattle.settings.specs.declared.Settings.{Settings}
use Rattle.fill.specs.Conditions.{fill_valid}
use Rattle.fill.specs.declared.Fill.{Fill}
use Rattle.summary.specs.Conditions.{summaries_good}
use Rattle.summary.specs.declared.Summary.{Summary}
use Rattle.run.specs.Conditions.{run_valid}
use Rattle.run.specs.declared.Run.{Run}
use Rattle.run.specs.declared.Phase.{Phase}
use Rattle.run.specs.declared.Phase.TheVariants.{Running}
use Rattle.store.specs.Store.{set_phase, set_fill, set_summaries}
use Rattle.store.specs.Conditions.{phase_valid, is_runs_slot, store_rules, state_rules, keeps_rules}
use Rattle.store.specs.Facts.{StatePlanned}
use Rattle.store.specs.declared.Store.{Store}

-- ---- the conditions

pub record ValidState (settings : Settings) (store : Store) : Type 0 where
  pub within : settings.len ≤ length settings.file
  pub good : settings_good (file_in settings) ≡ true
  pub some : 1 ≤ store.slots
  pub few : store.slots ≤ 7
  pub phase_good : phase_valid (file_in settings) store.slots store.phase ≡ true
  pub fill_high : store.fill.slot ≤ store.slots
  pub fill_apart : is_runs_slot store.phase store.fill.slot ≡ false
  pub fill_good : fill_valid (shape_in (file_in settings)).bytes (shape_in (file_in settings)).rows (shape_in (file_in settings)).stride store.fill ≡ true
  pub summaries_good : summaries_good (shape_in (file_in settings)).bytes (shape_in (file_in settings)).rows store.slots store.summaries ≡ true

module _ {settings : Settings} {store : Store} where
  pub valid-state : keeps_rules settings store ≡ true → ValidState settings store
  unfolding keeps_rules
  valid-state e =
      let rule : (k : ℕ) → get_or (state_rules settings store) k true ≡ true = λ k. holds k (state_rules settings store) e in
      record {
        within = leb-true _ _ (rule 0);
        good = rule 1;
        some = leb-true _ _ (rule 2);
        few = leb-true _ _ (rule 3);
        phase_good = rule 4;
        fill_high = leb-true _ _ (rule 5);
        fill_apart = not-true _ (rule 6);
        fill_good = rule 7;
        summaries_good = rule 8;
      }

  pub state-valid : ValidState settings store → keeps_rules settings store ≡ true
  unfolding keeps_rules
  state-valid v =
      all_kept
      (keep (le-leb _ _ v.within)
      (keep v.good
      (keep (le-leb _ _ v.some)
      (keep (le-leb _ _ v.few)
      (keep v.phase_good
      (keep (le-leb _ _ v.fill_high)
      (keep (ap not v.fill_apart) (keep v.fill_good (keep v.summaries_good none)))))))))

module _ {settings : Settings} {store : Store} where
  -- another valid phase, whose run has not the slot being filled, keeps a state valid
  pub phase_kept : ValidState settings store → (phase : Phase)
      → phase_valid (file_in settings) store.slots phase ≡ true → is_runs_slot phase store.fill.slot ≡ false
      → keeps_rules settings (set_phase store phase) ≡ true
  phase_kept v phase p apart =
      state-valid
      (record {
        within = v.within;
        good = v.good;
        some = v.some;
        few = v.few;
        phase_good = p;
        fill_high = v.fill_high;
        fill_apart = apart;
        fill_good = v.fill_good;
        summaries_good = v.summaries_good;
      })

  -- and so does another valid fill, of a slot of the store that is not the run's
  pub fill_kept : ValidState settings store → (fill : Fill) → fill.slot ≤ store.slots
      → is_runs_slot store.phase fill.slot ≡ false
      → fill_valid (shape_in (file_in settings)).bytes (shape_in (file_in settings)).rows (shape_in (file_in settings)).stride fill ≡ true
      → keeps_rules settings (set_fill store fill) ≡ true
  fill_kept v fill high apart good =
      state-valid
      (record {
        within = v.within;
        good = v.good;
        some = v.some;
        few = v.few;
        phase_good = v.phase_good;
        fill_high = high;
        fill_apart = apart;
        fill_good = good;
        summaries_good = v.summaries_good;
      })

  -- and so do other summaries that keep their conditions
  pub summaries_kept : ValidState settings store → (summaries : List Summary)
      → summaries_good (shape_in (file_in settings)).bytes (shape_in (file_in settings)).rows store.slots summaries ≡ true
      → keeps_rules settings (set_summaries store summaries) ≡ true
  summaries_kept v summaries good =
      state-valid
      (record {
        within = v.within;
        good = v.good;
        some = v.some;
        few = v.few;
        phase_good = v.phase_good;
        fill_high = v.fill_high;
        fill_apart = v.fill_apart;
        fill_good = v.fill_good;
        summaries_good = good;
      })

  -- a valid state with a run has a valid run
  pub run_of : ValidState settings store → {run : Run} → store.phase ≡ Running run
      → run_valid (file_in settings) store.slots run ≡ true
  run_of v p = ap (phase_valid (file_in settings) store.slots) (sym p) ∙ v.phase_good

  -- the file of such a state is as long as it says
  pub file_length_lem : ValidState settings store → settings.len ≡ length (file_in settings)
  file_length_lem v = sym (length-take-le _ _ v.within)

-- ---- how `plan_state` finds them, in order

module _ (settings : Settings) (store : Store) where
  breaks : (k : ℕ) → get_or (state_rules settings store) k true ≡ false → StatePlanned settings store None
  unfolding keeps_rules
  breaks k e = record { good = sym (broken k (state_rules settings store) e); plan = tt }

  -- the file is not whole
  pub cut_short : (settings.len < 0) ⊎ (length settings.file < settings.len) → StatePlanned settings store None
  cut_short (inl h) = absurd (omega arith)
  cut_short (inr h) = breaks 0 (lt-leb _ _ h)

  -- kept is the file
  module _ {kept : List ℕ} (front : kept ≡ slice_range settings.file 0 settings.len) where
    is : kept ≡ file_in settings
    is = let e : settings.len - 0 ≡ settings.len = omega arith in front ∙ ap (λ (n : ℕ). take n settings.file) e

    pub not_accepted : false ≡ settings_good kept → StatePlanned settings store None
    not_accepted e = breaks 1 (sym (e ∙ ap settings_good is))

    module _ (within : settings.len ≤ length settings.file) (plan : Plan) (of : PlanOf kept plan) {good : Bool}
        (e : good ≡ every (store_rules kept store)) where
      decides : good ≡ keeps_rules settings store
      unfolding keeps_rules
      decides =
          let accepted : settings_good (file_in settings) ≡ true = ap settings_good (sym is) ∙ of.good in
          e ∙ ap (λ (f : List ℕ). every (store_rules f store)) is ∙ sym (rw (le-leb _ _ within, accepted))

      planned : good ≡ true → StatePlanned settings store (Some plan)
      planned g = record { good = sym g ∙ decides; plan = subst (λ (f : List ℕ). PlanOf f plan) is of }

      not_planned : good ≡ false → StatePlanned settings store None
      not_planned g = record { good = sym g ∙ decides; plan = tt }

    -- the test of the store decides
    pub tested : settings.len ≤ length settings.file → (plan : Plan) → PlanOf kept plan → (good : Bool)
        → good ≡ every (store_rules kept store) → StatePlanned settings store (then_some good plan)
    tested within plan of true e = planned within plan of e refl
    tested within plan of false e = not_planned within plan of e refl
