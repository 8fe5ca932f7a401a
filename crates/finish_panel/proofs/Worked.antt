-- One whole update, typed from paper 002: each byte of this OTP memory is its own index, but for the soft start's stages, of which the
-- first repeats twice, the second not at all, and the last two once. Three-byte pictures stand for those of a panel.
-- Assumes nothing.
use mathlib.Core.Path.{◌≡◌, refl}
use mathlib.Core.Bool.{true}
use mathlib.Core.List.{List, [], ◌∷◌, ◌++◌, map}
use Prim.Native.Nat.{ℕ}
use lib.IntN.{pos, neg_ℤ}
use lib.ListN.{length, replicate}
use Rattle.lists.specs.Lists.{tabulate}
use Rattle.finish_order.specs.Order.{Thing, write, delay, busy_high, stage, things_of}
use Rattle.finish_rules.specs.Rules.{normal_index, fast_index, stage_good, stages_good}

pub otp : List ℕ
otp =
    tabulate 0x28 (λ i. i)
    ++ (0x82 ∷ 0x10 ∷ 0xF0 ∷ 0xFB ∷ 0x20 ∷ 0xA1 ∷ 0xB1 ∷ 0x82 ∷ [])
    ++ (0x80 ∷ 0x11 ∷ 0x22 ∷ 0x33 ∷ 0x44 ∷ 0xA2 ∷ 0xB2 ∷ 0xFF ∷ [])
    ++ (0x81 ∷ 0x00 ∷ 0x7F ∷ 0xFF ∷ 0x01 ∷ 0xA3 ∷ 0xB3 ∷ 0x80 ∷ [])
    ++ (0x81 ∷ 0x05 ∷ 0x06 ∷ 0x00 ∷ 0xFA ∷ 0xA4 ∷ 0xB4 ∷ 0x8A ∷ [])
    ++ replicate 0x38 0xFF

pub new : List ℕ
new = 0xAA ∷ 0x55 ∷ 0x0F ∷ []

pub second : List ℕ
second = 0x00 ∷ 0x00 ∷ 0x00 ∷ []

pub order : List Thing
order =
    write 0x01 (0x10 ∷ 0x00 ∷ [])
    ∷ write 0x13 (0x15 ∷ 0x16 ∷ 0x17 ∷ 0x18 ∷ 0x19 ∷ 0x1A ∷ [])
    ∷ write 0x90 (0x0C ∷ 0x0D ∷ 0x0E ∷ 0x0F ∷ [])
    ∷ write 0x12 (0x12 ∷ 0x13 ∷ 0x14 ∷ [])
    ∷ write 0x10 (0xAA ∷ 0x55 ∷ 0x0F ∷ [])
    ∷ write 0x12 (0x12 ∷ 0x13 ∷ 0x14 ∷ [])
    ∷ write 0x11 (0x00 ∷ 0x00 ∷ 0x00 ∷ [])
    ∷ write 0x05 (0x7D ∷ [])
    ∷ delay 50
    ∷ write 0x05 (0x00 ∷ [])
    ∷ delay 1
    ∷ write 0xD8 (0x1C ∷ [])
    ∷ write 0xD6 (0x1D ∷ [])
    ∷ write 0xA7 (0x10 ∷ [])
    ∷ delay 2
    ∷ write 0xA7 (0x00 ∷ [])
    ∷ delay 10
    ∷ write 0x44 (0x00 ∷ [])
    ∷ write 0x45 (0x80 ∷ [])
    ∷ write 0xA7 (0x10 ∷ [])
    ∷ delay 2
    ∷ write 0xA7 (0x00 ∷ [])
    ∷ delay 10
    ∷ write 0x44 (0x06 ∷ [])
    ∷ write 0x45 (0x3D ∷ [])
    ∷ write 0xA7 (0x10 ∷ [])
    ∷ delay 2
    ∷ write 0xA7 (0x00 ∷ [])
    ∷ delay 10
    ∷ write 0x60 (0x0B ∷ [])
    ∷ write 0x61 (0x1B ∷ [])
    ∷ write 0x02 (0x11 ∷ [])
    ∷ write 0x03 (0x1F ∷ [])
    -- stage 1: 0x10 - 5 and 0xF0 + 0x20, twice
    ∷ write 0x09 (0xA1 ∷ [])
    ∷ write 0x51 (0x0B ∷ 0x10 ∷ [])
    ∷ write 0x09 (0xB1 ∷ [])
    ∷ delay 2
    ∷ write 0x09 (0xA1 ∷ [])
    ∷ write 0x51 (0x06 ∷ 0x30 ∷ [])
    ∷ write 0x09 (0xB1 ∷ [])
    ∷ delay 2
    -- stage 3
    ∷ write 0x09 (0xA3 ∷ [])
    ∷ write 0x51 (0xFF ∷ 0x80 ∷ [])
    ∷ write 0x09 (0xB3 ∷ [])
    ∷ delay 0
    -- stage 4
    ∷ write 0x09 (0xA4 ∷ [])
    ∷ write 0x51 (0x05 ∷ 0x00 ∷ [])
    ∷ write 0x09 (0xB4 ∷ [])
    ∷ delay 10
    ∷ busy_high
    ∷ write 0x15 (0x3C ∷ [])
    ∷ busy_high
    ∷ write 0x09 (0x7B ∷ [])
    ∷ write 0x05 (0x5D ∷ [])
    ∷ write 0x09 (0x7A ∷ [])
    ∷ delay 15
    ∷ write 0x09 (0x00 ∷ [])
    ∷ []

-- at 21 degrees, in normal mode
pub whole_update : things_of otp (normal_index (pos 21)) new second ≡ order
unfolding otp new second order things_of stage
whole_update = refl

-- the OTP memory is a good one
pub otp_good : (length otp ≡ 128) × (stages_good otp ≡ true)
unfolding otp stages_good stage_good
otp_good = (refl, refl)

-- the ends of both ranges, and where normal mode's index is raised no more
pub indices :
    (map normal_index (neg_ℤ (pos 15) ∷ neg_ℤ (pos 4) ∷ neg_ℤ (pos 3) ∷ neg_ℤ (pos 2) ∷ pos 0 ∷ pos 60 ∷ [])
    ≡ 0x25 ∷ 0x25 ∷ 0x25 ∷ 0x26 ∷ 0x28 ∷ 0x64 ∷ [])
    × (map fast_index (pos 0 ∷ pos 50 ∷ []) ≡ 0xA8 ∷ 0xDA ∷ [])
indices = (refl, refl)
