-- Pictures made dot by dot, the slots of the lent memory, and regions.
pub mod Pictures
pub mod Slots
pub mod Regions
pub mod Facts
