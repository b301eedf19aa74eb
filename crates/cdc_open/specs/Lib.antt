pub mod Standing
pub mod Floors
pub mod Table
pub mod Seen
