-- The picture of a bitmap file, the file of a picture, and the normal form.
pub mod Codec
