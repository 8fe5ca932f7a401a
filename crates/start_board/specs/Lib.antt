-- What the calls for C give back where they answer one of several things.
pub mod Words
pub mod Finish
pub mod Hall
pub mod Mending
