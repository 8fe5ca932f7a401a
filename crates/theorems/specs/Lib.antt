-- What a refused call leaves, and one that ends a fill before its time.
pub mod Refusals
-- The things of a run in order, how the events of a list of calls go through them, each in its time, and what a stage puts out.
pub mod Order
pub mod Progress
pub mod Timing
pub mod Past
pub mod Frames
-- A picture that is carried by a bitmap file.
pub mod Copies
-- A bitmap file that comes in chunks.
pub mod Fills
-- A summary beside each slot.
pub mod Summaries
