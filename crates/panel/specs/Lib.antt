-- The panels: their table, their registers, the codes that drive a dot, and how the dots of a picture lie in its bytes.
pub mod Panels
pub mod Registers
pub mod Codes
pub mod Dots
pub mod Facts
pub mod Names
