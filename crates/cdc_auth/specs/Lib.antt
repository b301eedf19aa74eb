pub mod Answer
pub mod Credentials
pub mod Following
pub mod Greeting
pub mod Login
