-- The panel's line and a section leave room for another section. Assumes nothing.
use mathlib.Core.Path.{◌≡◌, ap}
use mathlib.Core.List.{◌++◌}
use native.Mathlib.Omega.{arith}
use lib.ListN.{length, drop, length-append}
use Rattle.panel.specs.Names.{panel_code}
use Rattle.panel.proofs.Panels.{code_lt}
use Rattle.settings.specs.Settings.{steps_of}
use Rattle.listing.specs.Text.{ascii}
use Rattle.listing.specs.Listing.{panel_line, section_lines}
use Rattle.listing.proofs.File.{panel_short, section_short}
use Rattle.listing.proofs.put_file.Goals as goal

pub put_section-requires-2 : goal.put_section-requires-2
put_section-requires-2 c =
    let plan = c.args.accepted.plan in
    let p = panel_code plan.panel in
    let start = c.args.accepted.its.start.readable in
    let lines = section_lines (ascii "start ") plan.start.count (steps_of p plan.start.count (drop plan.start.at c.args.accepted.file.now)) in
    let put : c.put_section.new.page.items ≡ c.put_panel_line.new.page.items ++ lines = c.put_section.ensures in (
      c.args.accepted.its.stop.readable,
      omega arith,
      omega (
        arith,
        ap length put,
        length-append c.put_panel_line.new.page.items lines,
        section_short (ascii "start ") start (omega arith),
        ap length c.put_panel_line.ensures,
        length-append c.args.page.now.items (panel_line p),
        panel_short p (code_lt plan.panel),
      ),
    )
