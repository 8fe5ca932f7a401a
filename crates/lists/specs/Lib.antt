-- Small definitions on lists and tests that every crate's contracts use.
pub mod Lists
pub mod Rules
