pub mod Keeping
pub mod Rereading
pub mod Sourced
pub mod SourcedLaws
pub mod Windows
pub mod Causes
pub mod Jobs
pub mod Passes
