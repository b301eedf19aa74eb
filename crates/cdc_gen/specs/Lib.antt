pub mod Draws
pub mod Head
pub mod Script
pub mod Events
pub mod Logs
pub mod Growing
