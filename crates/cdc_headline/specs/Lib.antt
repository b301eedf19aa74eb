pub mod Ending
pub mod Running
pub mod Headline
pub mod Laws
