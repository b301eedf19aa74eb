pub mod Conditions
pub mod Reading
pub mod Task
