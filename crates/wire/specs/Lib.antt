-- What goes to a panel: register writes, lines, and how a line's bytes are read back.
pub mod Registers
pub mod Line
pub mod Builder
pub mod Reading
