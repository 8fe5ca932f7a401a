-- The 5.81" and 7.41" panels of paper 002: the order of an update.
pub mod Order
pub mod Facts
