pub mod Account
pub mod Ends
pub mod Flow
pub mod Joined
pub mod Turns
