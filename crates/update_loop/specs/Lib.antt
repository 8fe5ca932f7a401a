-- The loop that shows a bib, what the calls that are exported to C do, and the parts of an upload.
pub mod Loop
pub mod Pictures
