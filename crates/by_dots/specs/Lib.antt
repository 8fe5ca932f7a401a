-- A region on a picture that is lent by itself.
pub mod Regions
