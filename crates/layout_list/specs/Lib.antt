-- The text of a layout.
pub mod Text
