-- Document 01, "Settings file": the listing, as text.
-- Assumes nothing.
use Rattle.std.specs.Prelude.{ℕ, cond, List, [], ◌∷◌, ◌++◌, length, get_or, replicate}
use Rattle.lists.specs.Lists.{overlay}
use Rattle.settings.specs.Settings.{Step, write, wait, malformed, panel_of, start_count, start_steps, stop_count, stop_steps, settings_good}
use Rattle.listing.specs.declared.Listing.{Listing}
use Rattle.listing.specs.Text.{ascii, newline, hex_byte, spaced_bytes, decimal}

-- a panel's name
abbrev pub panel_name : ℕ → List ℕ
panel_name panel = get_or (ascii "1.44" ∷ ascii "2" ∷ ascii "2.7" ∷ []) panel []

abbrev pub panel_line : ℕ → List ℕ
panel_line panel = ascii "panel " ++ panel_name panel ++ newline

-- a step's line
abbrev pub step_line : Step → List ℕ
step_line (write register bytes) = ascii "write " ++ hex_byte register ++ spaced_bytes bytes ++ newline
step_line (wait ms) = ascii "wait " ++ decimal ms ++ newline
step_line malformed = []

abbrev pub step_lines : List Step → List ℕ
step_lines [] = []
step_lines (step ∷ steps) = step_line step ++ step_lines steps

-- a section of steps: its word and count, then a line for each step
abbrev pub section_lines : (word : List ℕ) (count : ℕ) → List Step → List ℕ
section_lines word count steps = word ++ decimal count ++ newline ++ step_lines steps

-- the listing of an accepted file
abbrev pub file_lines : (file : List ℕ) → List ℕ
file_lines file =
    panel_line (panel_of file)
    ++ section_lines (ascii "start ") (start_count file) (start_steps file)
    ++ section_lines (ascii "stop ") (stop_count file) (stop_steps file)

-- the listing of any file; a bad one gives one line
unfoldable pub listing : (file : List ℕ) → List ℕ
listing file = cond (settings_good file) (file_lines file) (ascii "refused 2" ++ newline)

-- the listing at the front of an array, with zeros after it
abbrev pub listed : (file : List ℕ) → Listing
listed file = record { text = overlay (listing file) (replicate 2145 0); len = length (listing file) }
