-- Laws of the definitions in specs/: `Begins` of what begins with more or less, `Reading` of numbers that are read byte by byte, `Whole` of
-- what has come whole. `Meaning` has the theorem on what can follow.
pub mod Begins
pub mod Reading
pub mod Whole
pub mod Meaning
