-- The summary beside each slot: the black dots of a picture and the rows that have one, what a store keeps of them, and the conditions of
-- 13.
pub mod Summaries
pub mod Conditions
pub mod Facts
