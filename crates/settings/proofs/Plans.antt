-- The plan of an accepted file.
-- Assumes nothing.
use mathlib.Core.Path.{◌≡◌, refl, sym, ap, ◌∙◌}
use mathlib.Core.List.{List}
use Prim.Native.Nat.{ℕ, ◌+◌}
use native.Mathlib.Omega.{arith}
use lib.ListN.{get_or}
use Rattle.panel.specs.Panels.{frames_of, shape_of, Sizes}
use Rattle.panel.specs.Facts.{sizes}
use Rattle.panel.specs.Names.{panel_code}
use Rattle.panel.specs.declared.sizes.Shape.{Shape}
use Rattle.panel.specs.declared.table.Panel.{Panel}
use Rattle.panel.proofs.Panels.{sized_of}
use Rattle.settings.specs.Settings.{panel_of, row_bytes_in, rows_in, stride_in, start_count, start_steps, stop_count, stop_steps}
use Rattle.settings.specs.Facts.{StopAt, Accepted}
use Rattle.settings.specs.Plans.{SectionOf, PlanOf}
use Rattle.settings.specs.declared.Plan.{Plan}
use Rattle.settings.proofs.Sections.{stop_count_lem, stop_steps_lem}
use Rattle.settings.proofs.Accepted.{good-long, good-panel, good-starts, good_stops}

module _ {file : List ℕ} {stop : ℕ} (accepted : Accepted file stop) where
  begins : StopAt file stop
  begins = let h = accepted.within in record { within = omega arith; rest = accepted.rest }

  start_section : SectionOf (panel_of file) file (record { at = 3; count = get_or file 2 0 }) (start_count file) (start_steps file)
  start_section =
      let good = accepted.good in
      record {
        readable = record { a_panel = good-panel file good; within = good-long file good; few = good-starts file good };
        count_is = refl;
        steps_are = refl;
      }

  stop_section_lem : SectionOf (panel_of file) file (record { at = stop + 1; count = get_or file stop 0 }) (stop_count file) (stop_steps file)
  stop_section_lem =
      let good = accepted.good in
      let h = accepted.within in
      record {
        readable = record {
          a_panel = good-panel file good;
          within = omega arith;
          few = omega (arith, good_stops file good, stop_count_lem begins);
        };
        count_is = sym (stop_count_lem begins);
        steps_are = sym (stop_steps_lem begins);
      }

  pub plan_made : {panel : Panel} {shape : Shape} {n m : ℕ} → panel_code panel ≡ panel_of file → sizes shape ≡ shape_of (panel_code panel)
      → n ≡ get_or file 2 0 → m ≡ get_or file stop 0
      → PlanOf file
      (record {
        panel = panel;
        shape = shape;
        start = record { at = 3; count = n };
        stop = record { at = stop + 1; count = m };
      })
  plan_made {panel} {shape} p e n m =
      record {
        good = accepted.good;
        panel-is = p;
        shape_is = e ∙ ap shape_of p;
        sized = sized_of shape;
        start = rw (p, n) start_section;
        stop = rw (p, m) stop_section_lem;
      }

-- ---- the sizes of a plan are those of its file

module _ {file : List ℕ} {plan : Plan} (of : PlanOf file plan) where
  pub bytes_is : plan.shape.bytes ≡ row_bytes_in file
  bytes_is = ap (λ (s : Sizes). s.bytes) of.shape_is

  pub rows_is : plan.shape.rows ≡ rows_in file
  rows_is = ap (λ (s : Sizes). s.rows) of.shape_is

  pub stride_is : plan.shape.stride ≡ stride_in file
  stride_is = ap (λ (s : Sizes). s.stride) of.shape_is

  pub frames-is : plan.shape.frames ≡ frames_of (panel_of file)
  frames-is = ap (λ (s : Sizes). s.frames) of.shape_is
