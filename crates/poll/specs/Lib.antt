-- A poll of a run under way: a wait answer, or the one thing that is handed out.
pub mod Answers
pub mod HandOut
pub mod Poll
pub mod Facts
