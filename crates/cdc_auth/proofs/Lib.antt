pub mod Digests
pub mod Following
pub mod Worked
