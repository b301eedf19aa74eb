pub mod Drill
pub mod Attempts
