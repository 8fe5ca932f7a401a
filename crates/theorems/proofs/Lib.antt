-- A refused call changes nothing; a state that breaks a condition earns 13 in every call; an accepted call leaves a valid state.
pub mod Handed
pub mod Refusals
pub mod Invalid
pub mod Kept
-- Bitmaps through the calls: written files read back, read files are written in normal form.
pub mod RoundTrips
-- A bitmap file that comes in chunks, whatever other calls stand between.
pub mod Fills
-- Every summary is a fresh count.
pub mod Summaries
-- Polls hand out exactly the things of a run, in order, and come to its end.
pub mod Things
pub mod Order
pub mod Progress
pub mod Ends
-- Each in its time.
pub mod Items
pub mod PollTiming
pub mod Timing
-- A stage is N equal frames.
pub mod Frames
-- Document 01's table of sums checked by hand.
pub mod Worked
pub mod WorkedTimes
-- The theorems over the contracts as they stand in the source.
pub mod Tied
