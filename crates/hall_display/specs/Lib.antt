-- The big hall display of document 003: the two panels, and the upload of an image.
pub mod Panels
pub mod Displays
pub mod Upload
pub mod Order
