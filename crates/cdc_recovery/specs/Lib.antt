pub mod Checkpoints
pub mod Growing
pub mod Laws
pub mod MoveLaws
pub mod Outputs
