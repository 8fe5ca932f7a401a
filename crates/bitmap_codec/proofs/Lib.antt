-- Laws of the definitions in specs/: `Header` of the header as it is written, `Rows` of the rows of a file.
-- `RoundTrip` has the theorems on files that are written, read and checked.
pub mod Header
pub mod RoundTrip
pub mod Rows
