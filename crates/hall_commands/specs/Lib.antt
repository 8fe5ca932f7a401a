-- The upload commands of document 003, and reading them back into a slot.
pub mod Commands
pub mod Reading
pub mod Order
