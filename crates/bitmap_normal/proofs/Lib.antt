-- What was read and is written again is the normal form.
pub mod Normal
