-- Document 01, "Settings file": its example, and a file as long as a file can be.
-- Assumes nothing.
use mathlib.Core.Path.{◌≡◌, refl}
use mathlib.Core.Bool.{true}
use mathlib.Core.List.{List, [], ◌∷◌, ◌++◌}
use Prim.Native.Nat.{ℕ, zero, suc}
use lib.ListN.{length}
use Rattle.panel.specs.Registers.{data_length, channel_data, gate_source_level}
use Rattle.settings.specs.Settings.{write, wait, required_data, write_of, wait_of, step_of, start_steps, stop_steps, settings_good, longest_file}

abbrev pub example : List ℕ
example =
    0x01 ∷ 0x00 ∷ 0x02 ∷ 0x57 ∷ 0x01 ∷ 0x00 ∷ 0x00 ∷ 0x00 ∷ 0x00 ∷ 0x00 ∷ 0x0F ∷ 0xFF ∷ 0x00 ∷ 0x57 ∷ 0x04 ∷ 0x03
    ∷ 0x01 ∷ 0x44 ∷ 0x00 ∷ 0x0F ∷ []

pub example_read :
    (start_steps example
    ≡ write 0x01 (0x00 ∷ 0x00 ∷ 0x00 ∷ 0x00 ∷ 0x00 ∷ 0x0F ∷ 0xFF ∷ 0x00 ∷ []) ∷ write 0x04 (0x03 ∷ []) ∷ [])
    × (stop_steps example ≡ wait 15 ∷ [])
    × (settings_good example ≡ true)
unfolding settings_good step_of write_of wait_of required_data data_length channel_data gate_source_level
example_read = (refl, refl, refl)

-- n writes of 0x01 before other bytes
abbrev writes : (n : ℕ) → List ℕ → List ℕ
writes zero s = s
writes (suc n) s = 0x57 ∷ 0x01 ∷ channel_data 0 ++ writes n s

abbrev pub longest : List ℕ
longest = 0x01 ∷ 0x00 ∷ 32 ∷ writes 31 (0x57 ∷ 0x04 ∷ 0x03 ∷ 32 ∷ writes 32 [])

pub longest_reached : (length longest ≡ longest_file) × (settings_good longest ≡ true)
unfolding settings_good step_of write_of wait_of required_data data_length channel_data gate_source_level
longest_reached = (refl, refl)
