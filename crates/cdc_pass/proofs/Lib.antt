pub mod Listing
pub mod Beginning
pub mod Nodes
pub mod Causes
pub mod Ran
pub mod Opened
pub mod Running
pub mod Falling
