pub mod Changes
pub mod Empty
pub mod Files
pub mod LastPoint
pub mod Longer
pub mod OneCount
pub mod Runs
mod WorkedOutputs
