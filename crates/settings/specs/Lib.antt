-- The settings file: its steps and rules, and what a run reads from it.
pub mod Settings
pub mod Steps
pub mod Kept
pub mod Plans
pub mod Facts
