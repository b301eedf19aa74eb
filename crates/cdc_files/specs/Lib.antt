pub mod FileNames
pub mod Gathering
pub mod Share
pub mod Stream
pub mod Held
pub mod Untold
