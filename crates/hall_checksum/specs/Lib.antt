-- The checksum of document 003.
pub mod Checksum
