-- Laws of the tables: `Panels` has what holds of each panel, `Dots` how dots lie in bytes.
pub mod Panels
pub mod Registers
pub mod Codes
pub mod Dots
