pub mod KeyOrder
pub mod Gaps
