pub mod Complete
mod Ends
mod Texts
pub mod Zips
