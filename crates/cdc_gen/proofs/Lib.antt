pub mod Taken
pub mod Sizes
pub mod Put
pub mod Steps
pub mod Groups
pub mod Short
