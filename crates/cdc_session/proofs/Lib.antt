pub mod Answering
pub mod Chains
pub mod Choices
pub mod Copies
pub mod Names
pub mod Requests
pub mod Sent
pub mod Views
mod Worked
