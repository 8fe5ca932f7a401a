-- What the program makes of a file.
pub mod Normal
