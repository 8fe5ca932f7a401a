-- A settings file as text.
pub mod Text
pub mod Listing
