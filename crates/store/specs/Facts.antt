-- What internal functions say: what the tests of a call found.
-- Assumes nothing.
use Rattle.std.specs.Prelude.{ℕ, ◌≡◌, List, Option, IfSome, is_some, Result, IfOk}
use Rattle.refusal.specs.Numbers.{number_given}
use Rattle.refusal.specs.declared.Refusal.{Refusal}
use Rattle.lists.specs.Rules.{Case, first_of}
use Rattle.settings.specs.Plans.{PlanOf}
use Rattle.settings.specs.Kept.{file_in}
use Rattle.settings.specs.declared.Settings.{Settings}
use Rattle.settings.specs.declared.Plan.{Plan}
use Rattle.store.specs.Conditions.{keeps_rules}
use Rattle.store.specs.declared.Store.{Store}

-- whether a state keeps its conditions, and the plan of its file where it does
pub record StatePlanned (settings : Settings) (store : Store) (r : Option Plan) : Type 0 where
  pub good : is_some r ≡ keeps_rules settings store
  pub plan : IfSome r (PlanOf (file_in settings))

-- the first of these refusals, and the plan of the file where there is none
pub record Found (file : List ℕ) (cases : List Case) (r : Result Plan Refusal) : Type 0 where
  pub number_is : number_given r ≡ first_of cases (λ n. n) 0
  pub plan : IfOk r (PlanOf file)
