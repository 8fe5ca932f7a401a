-- How the code's values stand for those of the definitions.
-- Assumes nothing.
use Rattle.std.specs.Prelude.{ℕ, ◌+◌, ◌*◌, cond, ◌≤◌, ◌<◌, ◌^◌, ◌≡◌, Bool, true, List, [], eqb, length, drop, set, Option, Some, None, is_some, IfSome, MatchOption, Result, is_ok, IfOk, IfErr}
use Rattle.lists.specs.Rules.{every}
use Rattle.panel.specs.Registers.{data_length}
use Rattle.settings.specs.Settings.{Step, write, wait, malformed, steps_of, rest_of, all_steps, writes_to, panel_of, stop_section, start_step_rules, settings_good}
use Rattle.settings.specs.Steps.{waits_before, from_write}
use Rattle.settings.specs.declared.Kind.{Kind}
use Rattle.settings.specs.declared.Kind.TheVariants.{Write, Wait}
use Rattle.settings.specs.declared.StepsEnd.{StepsEnd}
use Rattle.settings.specs.declared.Place.{Place}
use Rattle.settings.specs.declared.NextWrite.{NextWrite}

-- a step without its data, which stand in the file
abbrev pub kind_of : Step → Option Kind
kind_of (write register bytes) = Some (Write register)
kind_of (wait ms) = Some (Wait ms)
kind_of malformed = None

abbrev pub kind_size : Kind → ℕ
kind_size (Write register) = 2 + data_length register
kind_size (Wait ms) = 3

-- the kind of a step by its first three bytes
abbrev pub kind_by : (tag first second : ℕ) → Kind
kind_by tag first second = cond (eqb tag 0x57) (Write first) (Wait (first * 256 + second))

-- how many bytes a step takes, if it is one
abbrev pub size_found : Step → Option ℕ
size_found (write register bytes) = Some (2 + data_length register)
size_found (wait ms) = Some 3
size_found malformed = None

-- for each register whether it is written so far, after a step that begins with this tag and this byte
abbrev pub marked : (tag register : ℕ) (written : List Bool) → List Bool
marked tag register written = cond (eqb tag 0x57) (set written register true) written

-- n steps from index `at` on end at index `end`, or at bytes that are no step
pub record EndsAt (panel n at : ℕ) (file : List ℕ) (end : ℕ) : Type 0 where
  pub within : end ≤ length file
  pub rest : drop end file ≡ rest_of panel n (drop at file)

-- where n steps from index `at` on end, and whether they write the channels and the level
pub record Passed (panel n at : ℕ) (file : List ℕ) (r : StepsEnd) : Type 0 where
  pub ends : EndsAt panel n at file r.end
  pub channels : r.channels ≡ writes_to 0x01 (steps_of panel n (drop at file))
  pub level : r.level ≡ writes_to 0x04 (steps_of panel n (drop at file))

-- n steps from index `at` on were passed, or the first bytes that are no step were reached
pub record StepsPassed (panel n at : ℕ) (file : List ℕ) (r : Result StepsEnd ℕ) : Type 0 where
  pub good : is_ok r ≡ all_steps (steps_of panel n (drop at file))
  pub passed : IfOk r (Passed panel n at file)
  pub stuck : IfErr r (EndsAt panel n at file)

-- a file whose steps can be read
pub record Readable (file : List ℕ) : Type 0 where
  pub long : 3 ≤ length file
  pub panel : panel_of file < 3

-- the index at which the stop section of a file begins
pub record StopAt (file : List ℕ) (stop : ℕ) : Type 0 where
  pub within : stop ≤ length file
  pub rest : drop stop file ≡ stop_section file

-- an accepted file, and the index at which its stop section begins
pub record Accepted (file : List ℕ) (stop : ℕ) : Type 0 where
  pub good : settings_good file ≡ true
  pub within : stop < length file
  pub rest : drop stop file ≡ stop_section file

-- where the stop section begins, if the start steps keep their rules
pub record StartPassed (file : List ℕ) (r : Option ℕ) : Type 0 where
  pub good : is_some r ≡ every (start_step_rules file)
  pub stop : IfSome r (StopAt file)

-- where the stop section begins, if a file is accepted
pub record LaidOut (file : List ℕ) (r : Option ℕ) : Type 0 where
  pub good : is_some r ≡ settings_good file
  pub stop : IfSome r (Accepted file)

-- the steps from the next write on stand at this place of the file
pub record PlaceOf (panel : ℕ) (file : List ℕ) (steps : List Step) (place : Place) : Type 0 where
  pub rest : steps_of panel place.left (drop place.at file) ≡ from_write steps
  pub within : place.at ≤ length file
  pub some : 0 < place.left
  pub few : place.left ≤ length steps

-- the next write among the steps: the waits before it, and where it stands, if there is one
pub record Found (panel : ℕ) (file : List ℕ) (steps : List Step) (r : NextWrite) : Type 0 where
  pub waits : r.waits ≡ waits_before steps
  pub small : r.waits < 2 ^ 24
  pub write : MatchOption r.write (from_write steps ≡ []) (PlaceOf panel file steps)
