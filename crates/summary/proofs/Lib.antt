-- `Bytes` has the laws of black dots by the bytes that hold them, `Rows` those of rows with a black dot and of the scans for them,
-- `Summaries` those of fresh counts, `Conditions` those of 13, `Kept` those of the summaries that a store keeps.
pub mod Bytes
pub mod Rows
pub mod Summaries
pub mod Conditions
pub mod Kept
