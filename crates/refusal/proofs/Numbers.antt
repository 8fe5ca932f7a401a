-- No refusal has the number 0.
-- Assumes nothing.
use Prim.Native.Nat.{◌<◌}
use native.Mathlib.Omega.{arith}
use Rattle.refusal.specs.declared.Refusal.{Refusal}
use Rattle.refusal.specs.declared.Refusal.TheVariants.{Memory, Settings, Slot, Bitmap, Region, Payload, RunsSlot, Running, NoRun, Clock, Output, Unknown, State, Argument, FillsSlot, Filling, NoFill, OtpLength, OtpByte, Temperature, Pictures, Display, Image, DisplaySlot, Command, Data, List, Levels, Empty}
use Rattle.refusal.specs.Numbers.{number_of}

pub number_some : (refusal : Refusal) → 0 < number_of refusal
number_some Memory = omega arith
number_some Settings = omega arith
number_some Slot = omega arith
number_some Bitmap = omega arith
number_some Region = omega arith
number_some Payload = omega arith
number_some RunsSlot = omega arith
number_some Running = omega arith
number_some NoRun = omega arith
number_some Clock = omega arith
number_some Output = omega arith
number_some Unknown = omega arith
number_some State = omega arith
number_some Argument = omega arith
number_some FillsSlot = omega arith
number_some Filling = omega arith
number_some NoFill = omega arith
number_some OtpLength = omega arith
number_some OtpByte = omega arith
number_some Temperature = omega arith
number_some Pictures = omega arith
number_some Display = omega arith
number_some Image = omega arith
number_some DisplaySlot = omega arith
number_some Command = omega arith
number_some Data = omega arith
number_some List = omega arith
number_some Levels = omega arith
number_some Empty = omega arith
