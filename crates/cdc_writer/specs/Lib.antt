pub mod Events
pub mod Statements
pub mod Parts
pub mod Refusal
pub mod Short
pub mod Spot
pub mod Run
