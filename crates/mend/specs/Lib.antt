-- Mending bitmap files: what is mended and how, the list of changes, the answer, and what is promised of it.
pub mod Mending
pub mod Changes
pub mod Answers
pub mod Promises
pub mod Facts
