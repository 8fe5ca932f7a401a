-- The numbers that stand for the refusals; docs/REQUIREMENTS.md says when each is given.
-- Assumes nothing.
use Rattle.std.specs.Prelude.{ℕ, Result, Ok, Err}
use Rattle.refusal.specs.declared.Refusal.{Refusal}
use Rattle.refusal.specs.declared.Refusal.TheVariants.{Memory, Settings, Slot, Bitmap, Region, Payload, RunsSlot, Running, NoRun, Clock, Output, Unknown, State, Argument, FillsSlot, Filling, NoFill, OtpLength, OtpByte, Temperature, Pictures, Display, Image, DisplaySlot, Command, Data, List, Levels, Empty}

abbrev pub number_of : Refusal → ℕ
number_of Memory = 1
number_of Settings = 2
number_of Slot = 3
number_of Bitmap = 4
number_of Region = 5
number_of Payload = 6
number_of RunsSlot = 7
number_of Running = 8
number_of NoRun = 9
number_of Clock = 10
number_of Output = 11
number_of Unknown = 12
number_of State = 13
number_of Argument = 14
number_of FillsSlot = 15
number_of Filling = 16
number_of NoFill = 17
number_of OtpLength = 18
number_of OtpByte = 19
number_of Temperature = 20
number_of Pictures = 21
number_of Display = 24
number_of Image = 25
number_of DisplaySlot = 26
number_of Command = 27
number_of Data = 28
number_of List = 29
number_of Levels = 30
number_of Empty = 31

-- the number that a result stands for: 0 where nothing is refused
abbrev pub number_given : {A : Type 0} → Result A Refusal → ℕ
number_given (Ok _) = 0
number_given (Err refusal) = number_of refusal
