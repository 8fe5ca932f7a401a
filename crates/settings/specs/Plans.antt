-- What a call reads from an accepted settings file, as the code's values stand for it.
-- Assumes nothing.
use Rattle.std.specs.Prelude.{ℕ, ◌≤◌, ◌<◌, ◌≡◌, true, List, length, drop, Option, is_some, IfSome}
use Rattle.panel.specs.Facts.{Sized, sizes}
use Rattle.panel.specs.Names.{panel_code}
use Rattle.settings.specs.Settings.{Step, steps_of, panel_of, shape_in, start_count, start_steps, stop_count, stop_steps, settings_good}
use Rattle.settings.specs.declared.Section.{Section}
use Rattle.settings.specs.declared.Plan.{Plan}

-- steps of a panel that can be read from a section
pub record SectionIn (panel : ℕ) (file : List ℕ) (section : Section) : Type 0 where
  pub a_panel : panel < 3
  pub within : section.at ≤ length file
  pub few : section.count ≤ 32

-- a section holds these steps
pub record SectionOf (panel : ℕ) (file : List ℕ) (section : Section) (count : ℕ) (steps : List Step) : Type 0 where
  pub readable : SectionIn panel file section
  pub count_is : section.count ≡ count
  pub steps_are : steps_of panel section.count (drop section.at file) ≡ steps

-- the file is accepted, and the plan is its own
pub record PlanOf (file : List ℕ) (plan : Plan) : Type 0 where
  pub good : settings_good file ≡ true
  pub panel-is : panel_code plan.panel ≡ panel_of file
  pub shape_is : sizes plan.shape ≡ shape_in file
  pub sized : Sized (sizes plan.shape)
  pub start : SectionOf (panel_code plan.panel) file plan.start (start_count file) (start_steps file)
  pub stop : SectionOf (panel_code plan.panel) file plan.stop (stop_count file) (stop_steps file)

-- the plan of a file, if it is accepted
pub record PlannedFor (file : List ℕ) (r : Option Plan) : Type 0 where
  pub accepted : is_some r ≡ settings_good file
  pub plan : IfSome r (PlanOf file)
