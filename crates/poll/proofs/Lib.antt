-- Laws of the definitions in specs/: `Rows` of the rows and slots of the memory, `Next` of what a run hands out next.
pub mod Rows
pub mod Next
