-- Bitmap files of which some bytes have come: the test of the bytes so far, and what it means.
pub mod Begins
pub mod Meaning
