-- Laws of the definitions in specs/: `Place` of a run's places, `Due` of when the next thing is due, `Valid` of the conditions on a run, `Writes`
-- of the next write of a section, `Keeps` that what start and a poll do keeps the conditions.
pub mod Place
pub mod Due
pub mod Valid
pub mod Writes
pub mod Keeps
