pub mod Fresh
pub mod Finding
pub mod Passing
pub mod Endings
