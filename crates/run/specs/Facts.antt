-- How the code's values stand for those of the definitions, and what a caller shows.
-- Assumes nothing.
use Rattle.std.specs.Prelude.{◌≡◌, ℕ, ◌≤◌, Bool, true, false, Option, Some, None, List}
use Rattle.settings.specs.declared.Kind.{Kind}
use Rattle.settings.specs.declared.Kind.TheVariants.{Write, Wait}
use Rattle.run.specs.Conditions.{place_valid}
use Rattle.run.specs.declared.Passed.{Passed}
use Rattle.run.specs.declared.Position.{Position}
use Rattle.run.specs.declared.Run.{Run}

-- a write stands there
abbrev pub kind_is_write : Option Kind → Bool
kind_is_write (Some (Write register)) = true
kind_is_write (Some (Wait ms)) = false
kind_is_write None = false

-- a run at a valid place, at a moment no earlier than the call that handed out its last thing
pub record Ready (file : List ℕ) (run : Run) (place : Position) (moment : Passed) : Type 0 where
  pub valid : place_valid file run place ≡ true
  pub order : run.handed.0 ≤ moment.0
