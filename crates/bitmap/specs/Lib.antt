-- Bitmap files: their numbers, palettes and fields, and the check's answer.
pub mod Numbers
pub mod Palettes
pub mod Header
pub mod Table
pub mod Bitmap
