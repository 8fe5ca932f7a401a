-- Laws of the definitions in specs/: `Pictures` of dots, bytes and rectangles, `Joined` of eight dots as a byte, `Slots` of the lent
-- memory, `Regions` of region uploads.
pub mod Pictures
pub mod Joined
pub mod Slots
pub mod Regions
