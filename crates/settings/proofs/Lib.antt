-- Laws of the definitions in specs/: `Prefix` of how bytes begin, `Decode` of each branch of the code that reads a step, `Steps` of single
-- steps and of passing them one by one, `Bytes` of what a step is by its bytes, `Waits` of the waits before the next write, `Sections` of
-- the rules section by section; `Accepted` has what holds of every accepted file, `Plans` what a call reads from it, `Examples` document
-- 01's example.
pub mod Prefix
pub mod Decode
pub mod Steps
pub mod Bytes
pub mod Waits
pub mod Sections
pub mod Accepted
pub mod Plans
pub mod Examples
