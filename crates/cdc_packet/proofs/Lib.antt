pub mod Filling
pub mod Requests
pub mod Sending
