-- The sizes that an answer tells of fit the rooms.
pub mod Sizes
