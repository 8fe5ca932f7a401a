-- Bitmap files that come in chunks: fills, what each byte does, and the conditions that a fill keeps.
pub mod Fills
pub mod Feeding
pub mod Conditions
pub mod Facts
