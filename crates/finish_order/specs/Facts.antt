-- Names for parts of internal contracts: what a step of the code stands for, and the parts of the order that it counts in.
-- Assumes nothing.
use Rattle.std.specs.Prelude.{◌≡◌, Bool, true, List, [], ◌∷◌, ◌++◌, ℕ, zero, suc, ◌+◌, leb}
use Rattle.finish_order.specs.declared.Step.{Step}
use Rattle.finish_order.specs.declared.Step.TheVariants.{Byte, Pair, Otp, Dctl, Index, New, Second, Delay, BusyHigh, Done}
use Rattle.finish_order.specs.Order.{Thing, write, delay, busy_high, done, otp_byte, otp_bytes, initialize, send_image, update_cog, stage, send_update, stop_dc_dc, otp_length, thing_at}

-- the thing that a step stands for
abbrev pub thing_of : (otp : List ℕ) (index : ℕ) (new second : List ℕ) → Step → Thing
thing_of otp index new second (Byte register byte) = write register (byte ∷ [])
thing_of otp index new second (Pair register first second') = write register (first ∷ second' ∷ [])
thing_of otp index new second (Otp register at n) = write register (otp_bytes otp at n)
thing_of otp index new second (Dctl register) = write register (otp_byte otp 0x10 ∷ 0x00 ∷ [])
thing_of otp index new second (Index register) = write register (index ∷ [])
thing_of otp index new second (New register) = write register new
thing_of otp index new second (Second register) = write register second
thing_of otp index new second (Delay ms) = delay ms
thing_of otp index new second BusyHigh = busy_high
thing_of otp index new second Done = done

-- a step that reads the OTP memory does not read past its end
abbrev pub step_within : Step → Bool
step_within (Byte register byte) = true
step_within (Pair register first second) = true
step_within (Otp register at n) = leb (at + n) otp_length
step_within (Dctl register) = true
step_within (Index register) = true
step_within (New register) = true
step_within (Second register) = true
step_within (Delay ms) = true
step_within BusyHigh = true
step_within Done = true

-- a step stands for the thing at a place of some things, whatever the index and the pictures are
pub record StandsFor (otp : List ℕ) (given : Step) (things : ℕ → List ℕ → List ℕ → List Thing) (k : ℕ) : Type 0 where
  pub within : step_within given ≡ true
  pub is : (index : ℕ) (new second : List ℕ) → thing_of otp index new second given ≡ thing_at (things index new second) k

-- what comes before the soft start, and what comes after it
abbrev pub before_start : (otp : List ℕ) (index : ℕ) (new second : List ℕ) → List Thing
before_start otp index new second = initialize otp ++ send_image otp new second ++ update_cog otp index

abbrev pub after_start : List Thing
after_start = send_update ++ stop_dc_dc

-- n stages from an index of the OTP memory on, and what comes after them
abbrev pub stages_from : (otp : List ℕ) (at n : ℕ) → List Thing
stages_from otp at zero = after_start
stages_from otp at (suc n) = stage otp at ++ stages_from otp (at + 8) n

-- the soft start, and what comes after it
abbrev pub from_start : (otp : List ℕ) → List Thing
from_start otp = stages_from otp 0x28 4
