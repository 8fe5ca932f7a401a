-- A run: its clock, its place, when the next thing is due, and the conditions that its state keeps.
pub mod Clock
pub mod Place
pub mod Due
pub mod Conditions
pub mod Runs
pub mod Facts
