pub mod Alike
pub mod OneNode
pub mod AllNodes
pub mod Counting
pub mod Passing
pub mod Faults
