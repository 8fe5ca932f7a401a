-- `Text` has the laws of numbers as text, `Steps` and `File` those of the lines; `Examples` is document 01's, and `Tied` the listing over
-- its contract as the source has it.
pub mod Text
pub mod Steps
pub mod File
pub mod Examples
pub mod Tied
