-- Laws of the definitions in specs/: `Fields` of what can be mended and how, `Header` of the mended header, `Changes` of the list and how it
-- is undone, `Few` of its length, `Counted` of its count by a filter, `Calls` of the answer, `Files` of the mended file. `Theorems` has what request 2026-11 promises of every call, and `Tied` the
-- same over the contract as the source has it.
pub mod Fields
pub mod Header
pub mod Changes
pub mod Counted
pub mod Few
pub mod Calls
pub mod Files
pub mod Theorems
pub mod Tied
