pub mod Checkpoint
pub mod Front
pub mod KeyBytes
pub mod Published
