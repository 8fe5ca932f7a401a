-- Document 01, "Panels" and "One line on the wire": the registers of a panel.
-- Assumes nothing.
use Rattle.std.specs.Prelude.{ℕ, List, [], ◌∷◌, get_or}

-- how many bytes of data registers 0x01 to 0x09 take; 0 for any other number
unfoldable pub data_length : (register : ℕ) → ℕ
data_length register = get_or (0 ∷ 8 ∷ 1 ∷ 1 ∷ 1 ∷ 1 ∷ 1 ∷ 1 ∷ 1 ∷ 2 ∷ []) register 0

-- a panel's data for register 0x01, which selects the channels
unfoldable pub channel_data : (panel : ℕ) → List ℕ
channel_data panel =
    get_or
    ((0x00 ∷ 0x00 ∷ 0x00 ∷ 0x00 ∷ 0x00 ∷ 0x0F ∷ 0xFF ∷ 0x00 ∷ [])
    ∷ (0x00 ∷ 0x00 ∷ 0x00 ∷ 0x00 ∷ 0x01 ∷ 0xFF ∷ 0xE0 ∷ 0x00 ∷ [])
    ∷ (0x00 ∷ 0x00 ∷ 0x00 ∷ 0x7F ∷ 0xFF ∷ 0xFE ∷ 0x00 ∷ 0x00 ∷ [])
    ∷ [])
    panel
    []

-- a panel's data for register 0x04, the gate source level
unfoldable pub gate_source_level : (panel : ℕ) → ℕ
gate_source_level panel = get_or (0x03 ∷ 0x03 ∷ 0x00 ∷ []) panel 0
