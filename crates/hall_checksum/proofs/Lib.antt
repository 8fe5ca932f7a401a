-- `Bits` and `Crc` have the laws of the checksum, `Tied` the theorem on both ways to make it, `Worked` a checksum that is known.
pub mod Bits
pub mod Crc
pub mod Tied
pub mod Worked
