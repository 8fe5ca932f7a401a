-- Change request 2026-04: what an update is refused for at every count, and a temperature's index.
-- Assumes nothing.
use Rattle.std.specs.Prelude.{◌≡◌, Bool, true, cond, not, Option, Some, None, ◌&&◌, ◌||◌, List, [], ◌∷◌, map, ℕ, ◌+◌, max, eqb, leb, ℤ, pos, neg_ℤ, nat_abs, ◌+ℤ◌, length}
use Rattle.std.specs.Int.Signed.{le_z}
use Rattle.lists.specs.Rules.{every, Case, case}
use Rattle.finish_order.specs.Order.{otp_length, otp_byte}
use Rattle.finish_rules.specs.declared.Mode.{Mode}
use Rattle.finish_rules.specs.declared.Mode.TheVariants.{Normal, Fast}

-- ---- the temperature

-- the temperature is one of a range
abbrev pub between : (low high temperature : ℤ) → Bool
between low high temperature = le_z low temperature && le_z temperature high

-- normal mode takes -15 to 60 degrees; its index is 0x28 + t, raised to at least 0x25
abbrev pub normal_good : (temperature : ℤ) → Bool
normal_good = between (neg_ℤ (pos 15)) (pos 60)

abbrev pub normal_index : (temperature : ℤ) → ℕ
normal_index temperature = max 0x25 (nat_abs (pos 0x28 +ℤ temperature))

-- fast mode takes 0 to 50 degrees; its index is 0xA8 + t
abbrev pub fast_good : (temperature : ℤ) → Bool
fast_good = between (pos 0) (pos 50)

abbrev pub fast_index : (temperature : ℤ) → ℕ
fast_index temperature = nat_abs (pos 0xA8 +ℤ temperature)

-- whether a mode takes a temperature, and its index there
abbrev pub good_in : Mode → (temperature : ℤ) → Bool
good_in Normal = normal_good
good_in Fast = fast_good

abbrev pub index_in : Mode → (temperature : ℤ) → ℕ
index_in Normal = normal_index
index_in Fast = fast_index

abbrev pub index_of : Mode → (temperature : ℤ) → Option ℕ
index_of mode temperature = cond (good_in mode temperature) (Some (index_in mode temperature)) None

-- ---- the refusals

-- the REPEAT and the DELAY byte of the stage at `at` have bit 7 set: they are 0x80 or more
unfoldable pub stage_good : (otp : List ℕ) (at : ℕ) → Bool
stage_good otp at = leb 0x80 (otp_byte otp at) && leb 0x80 (otp_byte otp (at + 7))

abbrev pub stage_tests : (otp : List ℕ) → List Bool
stage_tests otp = map (stage_good otp) (0x28 ∷ 0x30 ∷ 0x38 ∷ 0x40 ∷ [])

unfoldable pub stages_good : (otp : List ℕ) → Bool
stages_good otp = every (stage_tests otp)

-- the bytes of a 5.81" or of a 7.41" picture
unfoldable pub is_picture : (n : ℕ) → Bool
is_picture n = eqb n 23040 || eqb n 48000

-- what is refused at every count, in this order
abbrev pub refusals : (otp : List ℕ) (temperature_good : Bool) (new_length shown_length : ℕ) → List Case
refusals otp temperature_good new_length shown_length =
    case (not (eqb (length otp) otp_length)) 18  -- OTP length
    ∷ case (not (stages_good otp)) 19  -- a REPEAT or DELAY byte with bit 7 clear
    ∷ case (not temperature_good) 20  -- temperature
    ∷ case (not (is_picture new_length && eqb new_length shown_length)) 21  -- a picture of neither size, or two of different size
    ∷ []

-- inputs of which none is refused with 18, 19, 20 or 21
pub record Accepted (otp : List ℕ) (temperature_good : Bool) (new_length shown_length : ℕ) : Type 0 where
  pub otp_whole : length otp ≡ otp_length
  pub stages_good : stages_good otp ≡ true
  pub in_range : temperature_good ≡ true
  pub picture : is_picture new_length ≡ true
  pub same_size : new_length ≡ shown_length
