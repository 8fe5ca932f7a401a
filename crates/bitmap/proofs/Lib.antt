-- Laws of the definitions in specs/: `Numbers` of numbers as bytes, `Palettes` of colours and dots, `Check` of the check's answer,
-- `Fields` of the table. `Mapped` says what an array's `map` gives.
pub mod Numbers
pub mod Palettes
pub mod Check
pub mod Fields
pub mod Mapped
