-- Laws of the lines of a whole file.
-- Assumes nothing.
use mathlib.Core.Path.{◌≡◌, ap, ◌∙◌}
use mathlib.Core.Bool.{true, false}
use mathlib.Core.List.{List, ◌++◌}
use Prim.Native.Nat.{ℕ, ◌+◌, ◌≤◌, ◌<◌}
use native.Mathlib.Omega.{arith}
use lib.ListN.{length, drop, length-append}
use Rattle.panel.proofs.Panels.{each_panel}
use Rattle.settings.specs.Settings.{Step, steps_of, settings_good}
use Rattle.settings.specs.Plans.{SectionIn, SectionOf}
use Rattle.settings.specs.declared.Section.{Section}
use Rattle.listing.specs.Text.{ascii, newline, decimal}
use Rattle.listing.specs.Listing.{panel_line, step_lines, section_lines, file_lines, listing}
use Rattle.listing.proofs.Text.{decimal_short}
use Rattle.listing.proofs.Steps.{lines_short}

-- ---- how long lines are

pub panel_short : (panel : ℕ) → panel < 3 → length (panel_line panel) ≤ 11
panel_short = each_panel (λ p. length (panel_line p) ≤ 11) (omega arith) (omega arith) (omega arith)

pub number_short : (word : List ℕ) (n : ℕ) → length (word ++ decimal n ++ newline) ≤ length word + 5
number_short word n =
    rw (length-append (word ++ decimal n) newline, length-append word (decimal n)) (omega (arith, decimal_short n))

pub section_short : (word : List ℕ) {panel : ℕ} {file : List ℕ} {section : Section} → SectionIn panel file section → length word ≤ 6
    → length (section_lines word section.count (steps_of panel section.count (drop section.at file))) ≤ 1067
section_short word {panel} {file} {section} s h =
    let n = section.count in
    let rest = drop section.at file in
    rw (length-append (word ++ decimal n ++ newline) (step_lines (steps_of panel n rest)))
    (omega (arith, s.few, number_short word n, lines_short panel n rest))

-- ---- the lines of a section

pub section_lines_lem : (word : List ℕ) {panel : ℕ} {file : List ℕ} {section : Section} {count : ℕ} {steps : List Step}
    → SectionOf panel file section count steps
    → section_lines word section.count (steps_of panel section.count (drop section.at file)) ≡ section_lines word count steps
section_lines_lem word {panel} {file} {section} {count} s =
    ap (λ (n : ℕ). section_lines word n (steps_of panel section.count (drop section.at file))) s.count_is
    ∙ ap (section_lines word count) s.steps_are

-- ---- the listing, by what the check says of the file

module _ (file : List ℕ) where
  pub listing_good : settings_good file ≡ true → file_lines file ≡ listing file
  unfolding listing
  listing_good e = rw e

  pub listing_bad : settings_good file ≡ false → ascii "refused 2" ++ newline ≡ listing file
  unfolding listing
  listing_bad e = rw e
