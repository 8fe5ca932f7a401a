-- Layouts: the boxes of a list and their rules.
pub mod Boxes
pub mod Facts
