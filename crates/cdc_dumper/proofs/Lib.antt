pub mod FrontBytes
pub mod Images
pub mod Growing
pub mod Cutting
pub mod Appending
pub mod Committing
pub mod Kept
