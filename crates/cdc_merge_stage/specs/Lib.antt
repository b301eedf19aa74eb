pub mod Making
pub mod MergeLaws
pub mod Merged
pub mod Passing
pub mod Settled
