-- Document 01, "Settings file": three sections, each after its one-byte count: the panel, the start steps and the stop steps.
-- Assumes nothing.
use Rattle.std.specs.Prelude.{ℕ, zero, suc, ◌+◌, ◌*◌, Bool, true, false, cond, ◌&&◌, ◌||◌, List, [], ◌∷◌, ◌++◌, ltb, leb, eqb, length, get_or, take, drop}
use Rattle.lists.specs.Rules.{every}
use Rattle.panel.specs.Panels.{is_panel, rows_of, row_bytes_of, stride_of, shape_of, Sizes}
use Rattle.panel.specs.Registers.{data_length, channel_data, gate_source_level}

-- the longest file that is accepted
abbrev pub longest_file : ℕ
longest_file = 637

-- ---- steps

-- a register write with its data, a wait in ms, or bytes that are no step
pub data Step : Type 0 where
  write : (register : ℕ) (bytes : List ℕ) → Step
  wait : (ms : ℕ) → Step
  malformed : Step

-- s begins with the bytes of `prefix`
abbrev pub has_prefix : (s prefix : List ℕ) → Bool
has_prefix s [] = true
has_prefix [] (y ∷ ys) = false
has_prefix (x ∷ xs) (y ∷ ys) = eqb x y && has_prefix xs ys

-- every write of 0x01 or 0x04 has the panel's data: what a register's data must begin with
unfoldable pub required_data : (panel register : ℕ) → List ℕ
required_data panel register =
    cond (eqb register 0x01) (channel_data panel) (cond (eqb register 0x04) (gate_source_level panel ∷ []) [])

-- a write of a register 0x01 to 0x09, whose data s begins with
unfoldable pub write_of : (panel register : ℕ) (s : List ℕ) → Step
write_of panel register s =
    cond
    (ltb 0 (data_length register) && leb (data_length register) (length s) && has_prefix s (required_data panel register))
    (write register (take (data_length register) s))
    malformed

-- a wait is 1 to 1,000 ms
unfoldable pub wait_of : (ms : ℕ) → Step
wait_of ms = cond (leb 1 ms && leb ms 1000) (wait ms) malformed

-- the step that s begins with: 57, a register and its data; or 44 and a wait in ms, two bytes, high first
unfoldable pub step_of : (panel : ℕ) (s : List ℕ) → Step
step_of panel s =
    cond (leb 3 (length s))
    (cond (eqb (get_or s 0 0) 0x57) (write_of panel (get_or s 1 0) (drop 2 s))
    (cond (eqb (get_or s 0 0) 0x44) (wait_of (get_or s 1 0 * 256 + get_or s 2 0)) malformed))
    malformed

-- how many bytes a step takes; none where there is no step
abbrev pub size_of : Step → ℕ
size_of (write register bytes) = 2 + data_length register
size_of (wait ms) = 3
size_of malformed = 0

-- the n steps that s begins with, and what follows them
abbrev pub steps_of : (panel n : ℕ) (s : List ℕ) → List Step
steps_of panel zero s = []
steps_of panel (suc n) s = step_of panel s ∷ steps_of panel n (drop (size_of (step_of panel s)) s)

abbrev pub rest_of : (panel n : ℕ) (s : List ℕ) → List ℕ
rest_of panel zero s = s
rest_of panel (suc n) s = rest_of panel n (drop (size_of (step_of panel s)) s)

abbrev pub is_step : Step → Bool
is_step (write register bytes) = true
is_step (wait ms) = true
is_step malformed = false

abbrev pub all_steps : List Step → Bool
all_steps [] = true
all_steps (step ∷ steps) = is_step step && all_steps steps

-- a write of a register is among the steps
abbrev pub is_write_to : (register : ℕ) → Step → Bool
is_write_to register (write r bytes) = eqb r register
is_write_to register (wait ms) = false
is_write_to register malformed = false

abbrev pub writes_to : (register : ℕ) → List Step → Bool
writes_to register [] = false
writes_to register (step ∷ steps) = is_write_to register step || writes_to register steps

-- ---- the sections of a file

abbrev pub panel_of : (file : List ℕ) → ℕ
panel_of file = get_or file 1 0

-- the bytes of a row, the rows and the stride of the panel that a file names
abbrev pub row_bytes_in : (file : List ℕ) → ℕ
row_bytes_in file = row_bytes_of (panel_of file)

abbrev pub rows_in : (file : List ℕ) → ℕ
rows_in file = rows_of (panel_of file)

abbrev pub stride_in : (file : List ℕ) → ℕ
stride_in file = stride_of (panel_of file)

abbrev pub shape_in : (file : List ℕ) → Sizes
shape_in file = shape_of (panel_of file)

abbrev pub start_count : (file : List ℕ) → ℕ
start_count file = get_or file 2 0

abbrev pub start_steps : (file : List ℕ) → List Step
start_steps file = steps_of (panel_of file) (start_count file) (drop 3 file)

-- from the count of the stop steps on
abbrev pub stop_section : (file : List ℕ) → List ℕ
stop_section file = rest_of (panel_of file) (start_count file) (drop 3 file)

abbrev pub stop_count : (file : List ℕ) → ℕ
stop_count file = get_or (stop_section file) 0 0

abbrev pub stop_steps : (file : List ℕ) → List Step
stop_steps file = steps_of (panel_of file) (stop_count file) (drop 1 (stop_section file))

-- what follows the stop steps
abbrev pub end_of : (file : List ℕ) → List ℕ
end_of file = rest_of (panel_of file) (stop_count file) (drop 1 (stop_section file))

-- ---- the rules

-- the panel section, and the count of the start steps
abbrev pub head_rules : (file : List ℕ) → List Bool
head_rules file =
    leb 3 (length file)
    ∷ eqb (get_or file 0 0) 1
    ∷ is_panel (panel_of file)
    ∷ leb 2 (start_count file)
    ∷ leb (start_count file) 32
    ∷ []

-- the start steps: the channels and the level are written among them
abbrev pub start_step_rules : (file : List ℕ) → List Bool
start_step_rules file = all_steps (start_steps file) ∷ writes_to 0x01 (start_steps file) ∷ writes_to 0x04 (start_steps file) ∷ []

-- the stop section, and nothing after it
abbrev pub stop_section_rules : (file : List ℕ) → List Bool
stop_section_rules file =
    ltb 0 (length (stop_section file))
    ∷ leb (stop_count file) 32
    ∷ all_steps (stop_steps file)
    ∷ eqb (length (end_of file)) 0
    ∷ []

abbrev pub settings_rules : (file : List ℕ) → List Bool
settings_rules file = head_rules file ++ (start_step_rules file ++ stop_section_rules file)

unfoldable pub settings_good : (file : List ℕ) → Bool
settings_good file = every (settings_rules file)

-- the settings check: 0, or 2 where the file breaks a rule
unfoldable pub check_settings : (file : List ℕ) → ℕ
check_settings file = cond (settings_good file) 0 2
