-- Layouts: where each box of a list stands on the panel, the answer, and what it is to tile a panel.
pub mod Places
pub mod Answer
pub mod Tiling
pub mod Facts
