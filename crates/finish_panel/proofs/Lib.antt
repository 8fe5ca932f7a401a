-- `Update` has the ways out of a call, `Ends` how many things an update has and what holds of each. `Whole` and `Tied` have that calls give
-- them out in order, and `Worked` one update typed from the paper.
pub mod Update
pub mod Ends
pub mod Whole
pub mod Tied
pub mod Worked
