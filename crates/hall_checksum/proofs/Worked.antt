-- A checksum that is known elsewhere, computed.
-- Assumes nothing.
use mathlib.Core.Path.{◌≡◌, refl}
use mathlib.Core.List.{[], ◌∷◌}
use Rattle.hall_checksum.specs.Checksum.{initial, add_byte, swap_bytes, mix_up, mix_down, mix_across, crc16_add, checksum_from}

-- "123456789", the usual test of such a checksum: the same polynomial and initial value as CRC-A of ISO 14443-3
pub digits : checksum_from initial (0x31 ∷ 0x32 ∷ 0x33 ∷ 0x34 ∷ 0x35 ∷ 0x36 ∷ 0x37 ∷ 0x38 ∷ 0x39 ∷ []) ≡ 0xBF05
unfolding crc16_add add_byte swap_bytes mix_up mix_down mix_across
digits = refl
