pub mod Counts
pub mod Costs
pub mod Sent
pub mod Begun
pub mod Steps
pub mod Turns
pub mod Jobs
