-- The 5.81" and 7.41" panels of paper 002: what the calls of an update answer.
pub mod Update
pub mod Facts
