-- Bitmap files that come in chunks: the calls.
pub mod Calls
