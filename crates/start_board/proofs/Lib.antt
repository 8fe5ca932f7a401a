-- `Tied` has the line builder and the two checks over the contracts as the source has them.
pub mod Tied
-- `Reading` has how a word is taken apart, `HallWords` the hall display's answers. `FinishOrder` has a whole update of a finish panel and
-- `HallOrder` a whole upload to the hall display; `FinishTied` and `HallTied` have them over the contracts as the source has them.
pub mod Reading
pub mod FinishOrder
pub mod FinishTied
pub mod HallWords
pub mod HallOrder
pub mod HallTied
-- `MendNumber` has mending's answer as a number, and `MendTied` what is promised of it over the contracts as the source has them.
pub mod MendNumber
pub mod MendTied
