-- `Lines` has the laws of the leaves' lines.
pub mod Lines
