-- A byte of a line is four joined codes, and comes from one picture byte.
pub mod Bytes
-- The scan bytes: zeros, and the row's mark in one of them where that is among them.
pub mod Scans
-- What the three parts leave is a line, and its length.
pub mod Line
-- What `inRange` says, as facts, and the ways out of the line builder.
pub mod Builder
-- A line that was handed out, read back: what it pushes each dot.
pub mod Reading
